-- What the tables hold gives the numbers of a site one by one.
use Rattle.std.proofs.Common.{◌≡◌, ℕ, ◌+◌, ◌<◌, Bool, true, false, cond, List, [], ◌∷◌, get_or, Some, None, Option, is_some, sym, refl, ap, ◌∙◌, arith}
use Rattle.std.proofs.lemmas.Bool.{true≢false}
use Rattle.std.specs.List.{slice_get}
use Rattle.circuit.specs.declared.site.Site.{Site}
use Rattle.circuit.specs.declared.site.Fault.{Fault}
use Rattle.circuit.specs.declared.site.FaultList.{FaultList}
use Rattle.site_index.specs.Sites.{fault_of, sits_at, on_table, place, place_of, placed_number, numbers_from, Nexts}
use Rattle.site_index.specs.declared.numbers.NumbersAt.{NumbersAt}
use Rattle.site_index.specs.Numbers.{with_fault, numbers_with, numbers_left}
use Rattle.site_index.proofs.Leading.{sits_below, numbers_at, first_is, from_first, no_first}
use Rattle.site_index.proofs.Tables.{one_site, same_self}

-- what is chosen, where it is something
pub chosen : {A : Type 0} (b : Bool) (r : Option A) (x : A) → cond b r None ≡ Some x → (b ≡ true) × (r ≡ Some x)
chosen true r x e = (refl, e)
chosen false r x e = let z : ◌≡◌ {A = ℕ} 0 1 = cc in absurd (omega arith)

-- a fault at a site of the table has a place there
pub placed : (s : Site) (f : Option Fault) → on_table s ≡ true → sits_at s f ≡ true → is_some (place_of f) ≡ true
placed s None on e = absurd (true≢false (sym e))
placed s (Some f) on e =
    let q : on_table f.site ≡ true = ap on_table (one_site f.site s e) ∙ on in
    ap (λ (b : Bool). is_some (cond b (Some (place f.site)) None)) q

module _ (list : FaultList) where
  with_sits : (s : Site) (n : ℕ) (f : Option Fault) → sits_at s f ≡ true → with_fault list n f ≡ numbers_from list s n
  with_sits s n None e = absurd (true≢false (sym e))
  with_sits s n (Some f) e = ap (λ (t : Site). numbers_from list t n) (one_site f.site s e)

  -- the first of the numbers stands for all of them
  pub with_first : (s : Site) (from : ℕ) (r : Option ℕ) → r ≡ slice_get (numbers_from list s from) 0 → numbers_with list r ≡ numbers_from list s from
  with_first s from None e = sym (no_first (numbers_from list s from) (sym e))
  with_first s from (Some n) e =
      let f = from_first list s from n (sym e) in
      with_sits s n (fault_of list n) f.1 ∙ sym f.0

  with_some : (s : Site) (b : Bool) → numbers_with list (cond b (slice_get (numbers_from list s 0) 0) None) ≡ cond b (numbers_from list s 0) []
  with_some s true = with_first s 0 _ refl
  with_some s false = refl

  -- a site of the table has its numbers, and no other site has any
  pub with_site : (s : Site) → numbers_with list (cond (on_table s) (slice_get (numbers_from list s 0) 0) None) ≡ cond (on_table s) (numbers_from list s 0) []
  with_site s = with_some s (on_table s)

  placed_by : (s : Site) (from : ℕ) (b : Bool) (r : Option ℕ) → (b ≡ true → on_table s ≡ true) → cond b (slice_get (numbers_from list s from) 0) None ≡ r → placed_number list r ≡ true
  placed_by s from b None on e = refl
  placed_by s from b (Some n) on e = let w = chosen b _ n e in placed s (fault_of list n) (on w.0) (from_first list s from n w.1).1

  pub first_placed : (s : Site) → placed_number list (cond (on_table s) (slice_get (numbers_from list s 0) 0) None) ≡ true
  first_placed s = placed_by s 0 (on_table s) _ (λ e. e) refl

  on_table_by : (b : Bool) (p : ℕ) → is_some (cond b (Some p) None) ≡ true → b ≡ true
  on_table_by true p e = refl
  on_table_by false p e = absurd (true≢false (sym e))

  module _ (next : List (Option ℕ)) (nexts : Nexts list 0 next) (n : ℕ) where
    one_of : (f : Option Fault) → fault_of list n ≡ f → is_some (place_of f) ≡ true → with_fault list n f ≡ n ∷ numbers_with list (get_or next n None)
    one_of None e h = absurd (true≢false (sym h))
    one_of (Some f) e h =
        let sits : sits_at f.site (fault_of list n) ≡ true = ap (sits_at f.site) e ∙ same_self f.site in
        let on = on_table_by (on_table f.site) (place f.site) h in
        numbers_at list f.site n true (sits_below list f.site n sits) sits
        ∙ ap (λ (xs : List ℕ). n ∷ xs) (sym (with_first f.site (n + 1) (get_or next n None) (nexts n f.site (omega arith, on, sits))))

    -- a number, and those after it
    pub one_number : is_some (place_of (fault_of list n)) ≡ true → numbers_with list (Some n) ≡ n ∷ numbers_with list (get_or next n None)
    one_number h = one_of (fault_of list n) refl h

    next_of : (f : Option Fault) → fault_of list n ≡ f → is_some (place_of f) ≡ true → placed_number list (get_or next n None) ≡ true
    next_of None e h = absurd (true≢false (sym h))
    next_of (Some f) e h =
        let sits : sits_at f.site (fault_of list n) ≡ true = ap (sits_at f.site) e ∙ same_self f.site in
        let on = on_table_by (on_table f.site) (place f.site) h in
        placed_by f.site (n + 1) true _ (λ _. on) (sym (nexts n f.site (omega arith, on, sits)))

    -- so has the next number
    pub next_placed : is_some (place_of (fault_of list n)) ≡ true → placed_number list (get_or next n None) ≡ true
    next_placed h = next_of (fault_of list n) refl h

  below_by : (f : Option Fault) (n : ℕ) → fault_of list n ≡ f → is_some (place_of f) ≡ true → n < 192
  below_by None n e h = absurd (true≢false (sym h))
  below_by (Some f) n e h = sits_below list f.site n (ap (sits_at f.site) e ∙ same_self f.site)

  -- a number whose fault has a place is below 192
  pub placed_below : (n : ℕ) → is_some (place_of (fault_of list n)) ≡ true → n < 192
  placed_below n h = below_by (fault_of list n) n refl h

  with_below : (n : ℕ) (f : Option Fault) (m : ℕ) (others : List ℕ) → with_fault list n f ≡ m ∷ others → m < 192
  with_below n None m others e = let z : ◌≡◌ {A = ℕ} 0 1 = cc in absurd (omega arith)
  with_below n (Some f) m others e = sits_below list f.site m (first_is list f.site n m others e).sits

  numbers_below : (r : Option ℕ) (m : ℕ) (others : List ℕ) → numbers_with list r ≡ m ∷ others → m < 192
  numbers_below None m others e = let z : ◌≡◌ {A = ℕ} 0 1 = cc in absurd (omega arith)
  numbers_below (Some n) m others e = with_below n (fault_of list n) m others e

-- what an iterator gives is below 192
pub left_below : (it : NumbersAt) (m : ℕ) (others : List ℕ) → numbers_left it ≡ m ∷ others → m < 192
left_below it m others e = numbers_below it.index.now.list it.next m others e
