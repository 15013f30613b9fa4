-- The faults at a site, one after the other.
use Rattle.std.proofs.Common.{◌≡◌, ℕ, zero, suc, ◌+◌, ◌-◌, ◌<◌, ◌≤◌, Bool, true, false, cond, ◌&&◌, ltb, List, [], ◌∷◌, Some, None, sym, refl, ap, ◌∙◌, subst, ⊎_elim, arith}
use Rattle.std.proofs.lemmas.Bool.{cases_Bool, cases_eq, le-ltb, cases_lt, true≢false}
use Rattle.std.specs.List.{filter, range_with_len, slice_get}
use Rattle.circuit.specs.declared.site.Site.{Site}
use Rattle.circuit.specs.declared.site.FaultList.{FaultList}
use Rattle.circuit.specs.Netlists.{fault_at}
use Rattle.site_index.specs.Sites.{fault_of, sits_at, numbers_from}

-- there are no faults past number 191
pub fault_past : (list : FaultList) (n : ℕ) → 192 ≤ n → fault_of list n ≡ None
unfolding fault_of
fault_past list n le = ap (λ (b : Bool). cond (b && ltb n list.count) (Some (fault_at list.fault n)) None) (le-ltb n 192 le)

-- a number whose fault sits somewhere is below 192
pub sits_below : (list : FaultList) (s : Site) (n : ℕ) → sits_at s (fault_of list n) ≡ true → n < 192
sits_below list s n e = ⊎_elim (λ (lt : n < 192). lt) (λ (le : 192 ≤ n). absurd (true≢false (sym e ∙ ap (sits_at s) (fault_past list n le)))) (cases_lt n 192)

module _ (list : FaultList) (s : Site) where
  -- one number more
  pub numbers_at : (n : ℕ) (b : Bool) → n < 192 → sits_at s (fault_of list n) ≡ b → numbers_from list s n ≡ cond b (n ∷ numbers_from list s (n + 1)) (numbers_from list s (n + 1))
  unfolding numbers_from
  numbers_at n b lt e =
      let q : 192 - n ≡ suc (192 - (n + 1)) = omega arith in
      let rest = numbers_from list s (n + 1) in
      ap (λ (left : ℕ). filter (λ k. sits_at s (fault_of list k)) (range_with_len n left)) q ∙ ap (λ (c : Bool). cond c (n ∷ rest) rest) e

  pub numbers_past : (n : ℕ) → 192 ≤ n → numbers_from list s n ≡ []
  unfolding numbers_from
  numbers_past n le =
      let q : 192 - n ≡ 0 = omega arith in
      ap (λ (left : ℕ). filter (λ k. sits_at s (fault_of list k)) (range_with_len n left)) q

  -- n is the first of the numbers from one on, and the others come after it
  pub record IsFirst (from n : ℕ) (others : List ℕ) : Type 0 where
    pub least : (k : ℕ) → from ≤ k → k < n → sits_at s (fault_of list k) ≡ false
    pub later : from ≤ n
    pub sits : sits_at s (fault_of list n) ≡ true
    pub after : others ≡ numbers_from list s (n + 1)

  here : (from n : ℕ) (others : List ℕ) → from < 192 → sits_at s (fault_of list from) ≡ true → numbers_from list s from ≡ n ∷ others → IsFirst from n others
  here from n others lt e q =
      let p : from ∷ numbers_from list s (from + 1) ≡ n ∷ others = sym (numbers_at from true lt e) ∙ q in
      let a : from ≡ n = cc in
      let b : others ≡ numbers_from list s (from + 1) = cc in
      subst (λ (i : ℕ). IsFirst from i others) a (record { least = λ k x y. absurd (omega arith); later = omega arith; sits = e; after = b })

  first_by : (left from n : ℕ) (others : List ℕ) → from + left ≡ 192 → numbers_from list s from ≡ n ∷ others → IsFirst from n others
  first_by zero from n others e q = let p : [] ≡ n ∷ others = sym (numbers_past from (omega arith)) ∙ q in let z : ◌≡◌ {A = ℕ} 0 1 = cc in absurd (omega arith)
  first_by (suc left) from n others e q = ⊎_elim
      (λ (h : sits_at s (fault_of list from) ≡ true). here from n others (omega arith) h q)
      (λ (h : sits_at s (fault_of list from) ≡ false).
      let f = first_by left (from + 1) n others (omega arith) (sym (numbers_at from false (omega arith) h) ∙ q) in
      record {
        least = λ k x y. ⊎_elim
            (λ (i : k ≡ from). subst (λ (j : ℕ). sits_at s (fault_of list j) ≡ false) (sym i) h)
            (λ (ne : k ≡ from → ⊥). f.least k (omega arith) y)
            (cases_eq k from);
        later = omega (arith, f.later);
        sits = f.sits;
        after = f.after;
      })
      (cases_Bool (sits_at s (fault_of list from)))

  pub first_is : (from n : ℕ) (others : List ℕ) → numbers_from list s from ≡ n ∷ others → IsFirst from n others
  first_is from n others q = ⊎_elim
      (λ (lt : from < 192). first_by (192 - from) from n others (omega arith) q)
      (λ (le : 192 ≤ from). let p : [] ≡ n ∷ others = sym (numbers_past from le) ∙ q in let z : ◌≡◌ {A = ℕ} 0 1 = cc in absurd (omega arith))
      (cases_lt from 192)

  none_by : (left from : ℕ) → from + left ≡ 192 → numbers_from list s from ≡ [] → (k : ℕ) → from ≤ k → sits_at s (fault_of list k) ≡ false
  none_by zero from e q k le = ap (sits_at s) (fault_past list k (omega arith))
  none_by (suc left) from e q k le = ⊎_elim
      (λ (h : sits_at s (fault_of list from) ≡ true).
      let p : from ∷ numbers_from list s (from + 1) ≡ [] = sym (numbers_at from true (omega arith) h) ∙ q in let z : ◌≡◌ {A = ℕ} 0 1 = cc in absurd (omega arith))
      (λ (h : sits_at s (fault_of list from) ≡ false). ⊎_elim
      (λ (i : k ≡ from). subst (λ (j : ℕ). sits_at s (fault_of list j) ≡ false) (sym i) h)
      (λ (ne : k ≡ from → ⊥). none_by left (from + 1) (omega arith) (sym (numbers_at from false (omega arith) h) ∙ q) k (omega arith))
      (cases_eq k from))
      (cases_Bool (sits_at s (fault_of list from)))

  -- where there are no numbers from one on, no fault from there on sits at the site
  pub none_sits : (from : ℕ) → numbers_from list s from ≡ [] → (k : ℕ) → from ≤ k → sits_at s (fault_of list k) ≡ false
  none_sits from q k le = ⊎_elim
      (λ (lt : from < 192). none_by (192 - from) from (omega arith) q k le)
      (λ (past : 192 ≤ from). ap (sits_at s) (fault_past list k (omega arith)))
      (cases_lt from 192)

  first_of : (from n : ℕ) (xs : List ℕ) → xs ≡ numbers_from list s from → slice_get xs 0 ≡ Some n → (numbers_from list s from ≡ numbers_from list s n) × (sits_at s (fault_of list n) ≡ true)
  first_of from n [] e q = let z : ◌≡◌ {A = ℕ} 0 1 = cc in absurd (omega arith)
  first_of from n (x ∷ xs) e q =
      let i : x ≡ n = cc in
      let f = first_is from x xs (sym e) in
      subst (λ (j : ℕ). (numbers_from list s from ≡ numbers_from list s j) × (sits_at s (fault_of list j) ≡ true)) i
      (sym e ∙ ap (λ (ys : List ℕ). x ∷ ys) f.after ∙ sym (numbers_at x true (sits_below list s x f.sits) f.sits), f.sits)

  -- the numbers from one on are those from the first of them on
  pub from_first : (from n : ℕ) → slice_get (numbers_from list s from) 0 ≡ Some n → (numbers_from list s from ≡ numbers_from list s n) × (sits_at s (fault_of list n) ≡ true)
  from_first from n q = first_of from n (numbers_from list s from) refl q

-- without a first there are none
pub no_first : (xs : List ℕ) → slice_get xs 0 ≡ None → xs ≡ []
no_first [] q = refl
no_first (x ∷ xs) q = let z : ◌≡◌ {A = ℕ} 0 1 = cc in absurd (omega arith)
