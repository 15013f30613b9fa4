-- The numbers that a row holds, as a list.
use Rattle.std.proofs.Common.{◌≡◌, ℕ, zero, suc, ◌<◌, ◌≤◌, min, Bool, true, false, cond, ◌&&◌, ◌||◌, eqb, ltb, List, [], ◌∷◌, length, get_or, take, Option, None, Some, sym, refl, ap, ◌∙◌, ap₂, subst, ⊎_elim, arith}
use Rattle.std.proofs.Math.Bool.{or-false}
use Rattle.std.proofs.Math.Seq.{take-suc}
use Rattle.std.proofs.lemmas.Bool.{cases_order, cases_lt, cases_eq, cond-true, cond-false, eq-eqb, ne_eqb, lt-ltb, le-ltb, and_left, or_left, both_ways}
use Rattle.std.proofs.lemmas.List.{length-take-le, get_or-take}
use Rattle.std.proofs.lemmas.List.Elements.{All-from_get_or}
use Rattle.std.proofs.lemmas.List.Folds.{list_any-append, list_any_at, list_any_none}
use Rattle.std.proofs.lemmas.Bool.Decides.{Decides-eqb}
use Rattle.std.proofs.lemmas.Iterator.{YieldsList}
use Rattle.std.proofs.lemmas.Slice.Eq.{slice_eq-Decides}
use Rattle.std.specs.Cmp.Lexicographic.{pointwise}
use Rattle.std.specs.Iterator.{AlwaysYields, YieldsThen, ComparesItemsByEq}
use Rattle.std.specs.List.{list_any, All, AllZip}
use Rattle.std.specs.Option.{MatchOption, IfSome, is_some}
use Rattle.std.specs.Bool.{Decides}
use Rattle.rising.specs.Rows.{reach, among, listed, held}
use Rattle.rising.proofs.Rising.{run_le, run_rises, rising_up, follows_low}

-- the list has k
abbrev pub has : List ℕ → ℕ → Bool
has xs k = list_any (λ x. eqb x k) xs

pub has_at : (xs : List ℕ) (i k : ℕ) → i < length xs → get_or xs i 0 ≡ k → has xs k ≡ true
has_at xs i k h e = list_any_at (λ x. eqb x k) xs i 0 h (eq-eqb _ _ e)

pub has_none : (xs : List ℕ) (k : ℕ) → ((i : ℕ) → i < length xs → get_or xs i 0 ≡ k → ⊥) → has xs k ≡ false
has_none xs k h = list_any_none (λ x. eqb x k) xs (All-from_get_or (λ x. eqb x k ≡ false) xs 0 (λ i l. ne_eqb _ _ (h i l)))

-- rising numbers, none above 191
pub record Ranked (xs : List ℕ) : Type 0 where
  pub up : (i j : ℕ) → i < j → j < length xs → get_or xs i 0 < get_or xs j 0
  pub low : (i : ℕ) → i < length xs → get_or xs i 0 < 192

pub ranked_tail : (x : ℕ) (xs : List ℕ) → Ranked (x ∷ xs) → Ranked xs
ranked_tail x xs r = record { up = λ i j h l. r.up (suc i) (suc j) (omega arith) (omega arith); low = λ i h. r.low (suc i) (omega arith) }

-- the first number is below the others
pub ranked_head : (x : ℕ) (xs : List ℕ) → Ranked (x ∷ xs) → (i : ℕ) → i < length xs → x < get_or xs i 0
ranked_head x xs r i h = r.up 0 (suc i) (omega arith) (omega arith)

-- ---- what a row holds

module _ (at : List ℕ) (len : ℕ) (long : length at ≡ 192) where
  pub reach_le : reach at len ≤ length at
  reach_le = let l = run_le at (min len 192) in omega arith

  pub length_held : length (held at len) ≡ reach at len
  length_held = length-take-le (reach at len) at reach_le

  pub held_ranked : Ranked (held at len)
  held_ranked =
      let n = length_held in
      record {
        up = λ i j h l.
            let below : get_or at i 0 < get_or at j 0 = rising_up at (reach at len) i j (run_rises at (min len 192)) h (omega arith) in
            let a : get_or (held at len) i 0 ≡ get_or at i 0 = get_or-take (reach at len) at i 0 (omega arith) in
            let b : get_or (held at len) j 0 ≡ get_or at j 0 = get_or-take (reach at len) at j 0 (omega arith) in
            omega arith;
        low = λ i h.
            let a : get_or (held at len) i 0 ≡ get_or at i 0 = get_or-take (reach at len) at i 0 (omega arith) in
            let b : get_or at i 0 < 192 = follows_low at i (run_rises at (min len 192) i (omega arith)) in
            omega arith;
      }

  among_has : (n k : ℕ) → n ≤ length at → among at n k ≡ has (take n at) k
  unfolding among
  among_has zero k h = refl
  among_has (suc n) k h =
      ap (λ (b : Bool). b || eqb (get_or at n 0) k) (among_has n k (omega arith))
      ∙ sym
      (ap (λ (xs : List ℕ). has xs k) (take-suc at n 0 h)
      ∙ list_any-append (λ x. eqb x k) (take n at) (get_or at n 0 ∷ [])
      ∙ ap (λ (b : Bool). has (take n at) k || b) (or-false (eqb (get_or at n 0) k)))

  -- a member is a number of that list
  pub held_has : (k : ℕ) → listed at len k ≡ has (held at len) k
  held_has k = among_has (reach at len) k reach_le

-- all numbers are above k
pub has_below : (xs : List ℕ) (k : ℕ) → ((i : ℕ) → i < length xs → k < get_or xs i 0) → has xs k ≡ false
has_below xs k h = has_none xs k (λ i l e. let z = h i l in omega arith)

pub has_head : (x : ℕ) (xs : List ℕ) → has (x ∷ xs) x ≡ true
has_head x xs = or_left (eqb x x) (has xs x) (eq-eqb x x refl)

-- ---- the first number from n on

pub record Next (f : ℕ → Bool) (n r : ℕ) : Type 0 where
  pub bound : r ≤ 192
  pub least : (k : ℕ) → n ≤ k → k < r → f k ≡ false
  pub found : r < 192 → (n ≤ r) × (f r ≡ true)

-- ys, and the next before it: 192 stands for none
abbrev pub with_next : ℕ → List ℕ → List ℕ
with_next a ys = cond (ltb a 192) (a ∷ ys) ys

pub next_some : (a : ℕ) (ys : List ℕ) → a < 192 → with_next a ys ≡ a ∷ ys
next_some a ys h = cond-true (ltb a 192) (a ∷ ys) ys (lt-ltb a 192 h)

pub next_none : (a : ℕ) (ys : List ℕ) → (192 ≤ a → ys ≡ []) → 192 ≤ a → with_next a ys ≡ []
next_none a ys none h = cond-false (ltb a 192) (a ∷ ys) ys (le-ltb a 192 h) ∙ none h

-- what is left of a walk that has gone past numbers below n: those from n on are those that pass f
pub record Onward (f : ℕ → Bool) (n : ℕ) (xs : List ℕ) : Type 0 where
  pub ranked : Ranked xs
  pub is : (k : ℕ) → n ≤ k → f k ≡ has xs k

pub onward_held : (at : List ℕ) (len n : ℕ) → length at ≡ 192 → Onward (listed at len) n (held at len)
onward_held at len n long = record { ranked = held_ranked at len long; is = λ k h. held_has at len long k }

-- the walk went past the next number, if there is one below the end, and else stays
abbrev pub Below : ℕ → List ℕ → Option ℕ → List ℕ → Type 0
Below end xs r ys = MatchOption r ((ys ≡ xs) × All (λ m. end ≤ m) (take 1 xs)) (λ x. (x < end) × (xs ≡ x ∷ ys))

pub onward_more : (f : ℕ → Bool) (n : ℕ) (xs : List ℕ) (r : Option ℕ) (ys : List ℕ) → Onward f n xs → Below (min n 192) xs r ys → is_some r ≡ true → Onward f n ys
onward_more f n xs None ys o b s = absurd (both_ways _ refl s)
onward_more f n xs (Some x) ys o b s =
    let p : Onward f n (x ∷ ys) = subst (Onward f n) b.1 o in
    let l : x < min n 192 = b.0 in
    record { ranked = ranked_tail x ys p.ranked; is = λ k h. p.is k h ∙ ap (λ (t : Bool). t || has ys k) (ne_eqb x k (λ q. omega arith)) }

pub onward_ends : (n : ℕ) (xs : List ℕ) (r : Option ℕ) (ys : List ℕ) → Below (min n 192) xs r ys → is_some r ≡ false → (ys ≡ xs) × All (λ m. min n 192 ≤ m) (take 1 xs)
onward_ends n xs None ys b s = b
onward_ends n xs (Some x) ys b s = absurd (both_ways _ s refl)

-- the number that comes next is the first from n on
pub next_listed : (f : ℕ → Bool) (n : ℕ) (xs : List ℕ) (p : Option ℕ) (ys : List ℕ) (r : ℕ) (zs : List ℕ) → Onward f n xs → Below (min n 192) xs p ys → is_some p ≡ false →
    r ≤ 192 → with_next r zs ≡ ys → (192 ≤ r → zs ≡ []) → Next f n r
next_listed f n xs p ys r zs o b s top e none =
    let ends = onward_ends n xs p ys b s in
    ⊎_elim
    (λ (l : r < 192). one l (sym ends.0 ∙ sym e ∙ next_some r zs l) ends.1)
    (λ (h : 192 ≤ r).
    let is : xs ≡ [] = sym ends.0 ∙ sym e ∙ next_none r zs none h in
    record { bound = top; least = λ k c d. o.is k c ∙ ap (λ (ms : List ℕ). has ms k) is; found = λ l. absurd (omega arith) })
    (cases_lt r 192)
  where
    above : (k : ℕ) → k < r → Ranked (r ∷ zs) → (i : ℕ) → i < length (r ∷ zs) → k < get_or (r ∷ zs) i 0
    above k l t zero h = l
    above k l t (suc i) h = let z = ranked_head r zs t i (omega arith) in omega arith

    one : r < 192 → xs ≡ r ∷ zs → All (λ m. min n 192 ≤ m) (take 1 xs) → Next f n r
    one low is all =
        let q : Onward f n (r ∷ zs) = subst (Onward f n) is o in
        let up : min n 192 ≤ r = (subst (λ (ms : List ℕ). All (λ m. min n 192 ≤ m) (take 1 ms)) is all) 0 0 (omega arith) in
        record {
          bound = top;
          least = λ k c d. q.is k c ∙ has_below (r ∷ zs) k (above k d q.ranked);
          found = λ l. (omega arith, q.is r (omega arith) ∙ has_head r zs);
        }

-- ---- equal members

-- a first number below that of the other list is not in that list
apart : (x y : ℕ) (xs ys : List ℕ) → Ranked (y ∷ ys) → ((k : ℕ) → has (x ∷ xs) k ≡ has (y ∷ ys) k) → x < y → ⊥
apart x y xs ys r same l =
    both_ways _ (has_below (y ∷ ys) x above) (sym (same x) ∙ has_head x xs)
  where
    above : (i : ℕ) → i < length (y ∷ ys) → x < get_or (y ∷ ys) i 0
    above zero h = l
    above (suc i) h = let z = ranked_head y ys r i (omega arith) in omega arith

-- what has the same first number has the same others
tails : (x y : ℕ) (xs ys : List ℕ) → Ranked (x ∷ xs) → Ranked (y ∷ ys) → ((k : ℕ) → has (x ∷ xs) k ≡ has (y ∷ ys) k) → x ≡ y → (k : ℕ) → has xs k ≡ has ys k
tails x y xs ys r s same e k =
    ⊎_elim
    (λ (h : x ≡ k).
    has_below xs k (λ i l. let z = ranked_head x xs r i l in omega arith) ∙ sym (has_below ys k (λ i l. let z = ranked_head y ys s i l in omega arith)))
    (λ (h : x ≡ k → ⊥).
    sym (ap (λ (b : Bool). b || has xs k) (ne_eqb x k h)) ∙ same k ∙ ap (λ (b : Bool). b || has ys k) (ne_eqb y k (λ q. h (e ∙ q))))
    (cases_eq x k)

-- lists of rising numbers with the same members are the same
pub same_members : (xs ys : List ℕ) → Ranked xs → Ranked ys → ((k : ℕ) → has xs k ≡ has ys k) → xs ≡ ys
same_members [] [] r s same = refl
same_members [] (y ∷ ys) r s same = absurd (both_ways _ (sym (same y)) (has_head y ys))
same_members (x ∷ xs) [] r s same = absurd (both_ways _ (same x) (has_head x xs))
same_members (x ∷ xs) (y ∷ ys) r s same =
    ⊎_elim
    (λ (e : x ≡ y). ap₂ ◌∷◌ e (same_members xs ys (ranked_tail x xs r) (ranked_tail y ys s) (tails x y xs ys r s same e)))
    (⊎_elim (λ (l : x < y). absurd (apart x y xs ys s same l)) (λ (l : y < x). absurd (apart y x ys xs r (λ k. sym (same k)) l)))
    (cases_order x y)

-- rows with the same members hold the same list
pub same_held : (a : List ℕ) (la : ℕ) (b : List ℕ) (lb : ℕ) → length a ≡ 192 → length b ≡ 192 → ((k : ℕ) → listed a la k ≡ listed b lb k) → held a la ≡ held b lb
same_held a la b lb ea eb same =
    same_members (held a la) (held b lb) (held_ranked a la ea) (held_ranked b lb eb) (λ k. sym (held_has a la ea k) ∙ same k ∙ held_has b lb eb k)

-- ---- what `eq` of two walks says

module _ {S T : Type 0} (steps : S → Option ℕ → S → Type 0) (others : T → Option ℕ → T → Type 0) (r : Bool) where
  abbrev Ends : Option ℕ → Option ℕ → Type 0
  Ends o p = MatchOption o (MatchOption p (r ≡ true) (λ _. r ≡ false)) (λ x. (r ≡ false) × IfSome p (λ y. eqb x y ≡ false))

  at_end : (o p : Option ℕ) (xs ys : List ℕ) (s u : S) (t w : T) → AlwaysYields steps (λ x. x) s xs → AlwaysYields others (λ x. x) t ys → steps s o u → others t p w → Ends o p →
      r ≡ pointwise eqb xs ys
  at_end None None (x ∷ xs) ys s u t w e f a b h = absurd (e.0 u a)
  at_end None (Some y) (x ∷ xs) ys s u t w e f a b h = absurd (e.0 u a)
  at_end (Some x) None [] ys s u t w e f a b h = absurd (e x u a)
  at_end (Some x) (Some y) [] ys s u t w e f a b h = absurd (e x u a)
  at_end None None [] (y ∷ ys) s u t w e f a b h = absurd (f.0 w b)
  at_end None (Some y) [] [] s u t w e f a b h = absurd (f y w b)
  at_end (Some x) None (z ∷ xs) (y ∷ ys) s u t w e f a b h = absurd (f.0 w b)
  at_end (Some x) (Some y) (z ∷ xs) [] s u t w e f a b h = absurd (f y w b)
  at_end None None [] [] s u t w e f a b h = h
  at_end None (Some y) [] (z ∷ ys) s u t w e f a b h = h
  at_end (Some x) None (z ∷ xs) [] s u t w e f a b h = h.0
  at_end (Some x) (Some y) (x' ∷ xs) (y' ∷ ys) s u t w e f a b h =
      h.0 ∙ sym (and_left (eqb x' y') (pointwise eqb xs ys) (sym (ap₂ eqb (e.1 x u a).0 (f.1 y w b).0) ∙ h.1))

  along : (cs bs : List ℕ) (o p : Option ℕ) (xs ys : List ℕ) (s u : S) (t w : T) → AlwaysYields steps (λ x. x) s xs → AlwaysYields others (λ x. x) t ys → YieldsThen steps s cs o u →
      YieldsThen others t bs p w → AllZip (λ x y. eqb x y ≡ true) cs bs → Ends o p → r ≡ pointwise eqb xs ys
  along [] [] o p xs ys s u t w e f a b z h = at_end o p xs ys s u t w e f (subst (λ j. steps j o u) (sym a.1) a.2) (subst (λ j. others j p w) (sym b.1) b.2) h
  along [] (y ∷ bs) o p xs ys s u t w e f a b z h = absurd z
  along (x ∷ cs) [] o p xs ys s u t w e f a b z h = absurd z
  along (x ∷ cs) (y ∷ bs) o p [] ys s u t w e f a b z h = absurd (e x a.1.0 a.1.1)
  along (x ∷ cs) (y ∷ bs) o p (x' ∷ xs) [] s u t w e f a b z h = absurd (f y b.1.0 b.1.1)
  along (x ∷ cs) (y ∷ bs) o p (x' ∷ xs) (y' ∷ ys) s u t w e f a b z h =
      let m = e.1 x a.1.0 a.1.1 in
      let n = f.1 y b.1.0 b.1.1 in
      let same : eqb x' y' ≡ true = sym (ap₂ eqb m.0 n.0) ∙ z.0 in
      along cs bs o p xs ys a.1.0 u b.1.0 w m.1 n.1 (a.0, a.1.2, a.2) (b.0, b.1.2, b.2) z.1 h ∙ sym (ap (λ (c : Bool). c && pointwise eqb xs ys) same)

pub eq_walks : {S U T : Type 0} {steps : S → Option ℕ → S → Type 0} {others : T → Option ℕ → T → Type 0} {s : S} {xs ys : List ℕ} (becomes : U → T → Type 0) (other : U) (r : Bool) →
    ComparesItemsByEq steps becomes others s other eqb r → YieldsList steps (λ x. x) s xs → ((it : T) → becomes other it → YieldsList others (λ x. x) it ys) → Decides r (xs ≡ ys)
eq_walks {steps = steps} {others = others} {s = s} {xs = xs} {ys = ys} becomes other r d e f =
    slice_eq-Decides Decides-eqb xs ys r (along steps others r d.1 d.2 d.3 d.4 xs ys s d.5 d.0 d.6 e.runs (f d.0 d.7).runs d.8 d.9 d.10 d.11)
