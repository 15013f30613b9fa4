-- The longest rising beginning of a row, and what stands in it.
use Rattle.std.proofs.Common.{◌≡◌, ℕ, zero, suc, ◌+◌, ◌-◌, ◌<◌, ◌≤◌, min, true, false, ◌&&◌, ◌||◌, eqb, ltb, ◌⊎◌, List, get_or, sym, refl, ap, ◌∙◌, inl, inr, ⊎_elim, add-one, arith}
use Rattle.std.proofs.lemmas.Bool.{cases_lt, cases_eq, cases_Bool, ltb-true, eqb-true, eq-eqb, ne_eqb, and_parts, and_cases, or_cases, or_from, cond-true, cond-false, both_ways}
use Rattle.std.proofs.lemmas.Bool.Decides.{nat_tests}
use Rattle.fault_set.specs.Members.{tally}
use Rattle.rising.specs.Rows.{follows, run, reach, among, listed}
use Rattle.rising.proofs.Tally.{tally_empty, tally_plus}

-- each of the first n numbers follows
abbrev pub Rising : List ℕ → ℕ → Type 0
Rising at n = (p : ℕ) → p < n → follows at p ≡ true

-- one place more: the run goes on there, or it had ended
run_cases : (at : List ℕ) (n : ℕ) → ((run at n ≡ n) × (follows at n ≡ true) × (run at (suc n) ≡ suc n)) ⊎ (((run at n ≡ n) → follows at n ≡ false) × (run at (suc n) ≡ run at n))
unfolding run
run_cases at n =
    ⊎_elim
    (λ (t : (eqb (run at n) n && follows at n) ≡ true). let b = and_parts (eqb (run at n) n) (follows at n) t in inl (eqb-true (run at n) n b.0, b.1, cond-true _ _ _ t))
    (λ (t : (eqb (run at n) n && follows at n) ≡ false).
    inr (
      λ e. ⊎_elim
          (λ (z : eqb (run at n) n ≡ false). absurd (both_ways _ z (eq-eqb _ _ e)))
          (λ (z : follows at n ≡ false). z)
          (and_cases (eqb (run at n) n) (follows at n) t),
      cond-false _ _ _ t,
    ))
    (cases_Bool (eqb (run at n) n && follows at n))

pub run_none : (at : List ℕ) → run at 0 ≡ 0
unfolding run
run_none at = refl

pub run_le : (at : List ℕ) (n : ℕ) → run at n ≤ n
run_le at zero = let z = run_none at in omega arith
run_le at (suc n) = ⊎_elim (λ y. let e = y.2 in omega arith) (λ y. let e = y.1 in let h = run_le at n in omega arith) (run_cases at n)

-- no row begins with more than 192 numbers
pub reach_le : (at : List ℕ) (len : ℕ) → reach at len ≤ 192
reach_le at len = let l = run_le at (min len 192) in omega arith

pub run_rises : (at : List ℕ) (n : ℕ) → Rising at (run at n)
run_rises at zero p h = let z = run_none at in absurd (omega arith)
run_rises at (suc n) p h =
    ⊎_elim
    (λ y. let e = y.0 in let s = y.2 in ⊎_elim (λ (q : p ≡ n). ap (follows at) q ∙ y.1) (λ (q : p ≡ n → ⊥). run_rises at n p (omega arith)) (cases_eq p n))
    (λ y. let e = y.1 in run_rises at n p (omega arith))
    (run_cases at n)

-- what stands where the run ended does not follow
pub run_ends : (at : List ℕ) (n : ℕ) → run at n < n → follows at (run at n) ≡ false
run_ends at zero h = absurd (omega arith)
run_ends at (suc n) h =
    ⊎_elim
    (λ y. let e = y.2 in absurd (omega arith))
    (λ y.
    let l = run_le at n in
    ap (follows at) y.1 ∙ ⊎_elim (λ (q : run at n ≡ n). ap (follows at) q ∙ y.0 q) (λ (q : run at n ≡ n → ⊥). run_ends at n (omega arith)) (cases_eq (run at n) n))
    (run_cases at n)

-- the run is as long as the numbers rise
pub reach_is : (at : List ℕ) (len m : ℕ) → Rising at m → m ≤ min len 192 → (m < min len 192 → follows at m ≡ false) → reach at len ≡ m
reach_is at len m rises h ends =
    let top = run_le at (min len 192) in
    ⊎_elim
    (λ (s : reach at len < m). absurd (both_ways _ (run_ends at (min len 192) (omega arith)) (rises (reach at len) s)))
    (λ (s : m ≤ reach at len).
    ⊎_elim
    (λ (t : m < reach at len). absurd (both_ways _ (ends (omega arith)) (run_rises at (min len 192) m t)))
    (λ (t : reach at len ≤ m). omega arith)
    (cases_lt m (reach at len)))
    (cases_lt (reach at len) m)

pub follows_low : (at : List ℕ) (p : ℕ) → follows at p ≡ true → get_or at p 0 < 192
follows_low at p h = ltb-true _ _ (and_parts _ _ h).0

follows_up : (at : List ℕ) (p : ℕ) → follows at (suc p) ≡ true → get_or at p 0 < get_or at (suc p) 0
follows_up at p h =
    let e : suc p - 1 ≡ p = omega arith in
    let z : get_or at (suc p - 1) 0 ≡ get_or at p 0 = ap (λ (x : ℕ). get_or at x 0) e in
    ⊎_elim
    (λ (y : eqb (suc p) 0 ≡ true). let n : suc p ≡ 0 = eqb-true _ _ y in absurd (omega arith))
    (λ (y : ltb (get_or at (suc p - 1) 0) (get_or at (suc p) 0) ≡ true). let l = ltb-true _ _ y in omega arith)
    (or_cases _ _ (and_parts _ _ h).1)

pub rising_up : (at : List ℕ) (n p q : ℕ) → Rising at n → p < q → q < n → get_or at p 0 < get_or at q 0
rising_up at n p zero h l m = absurd (omega arith)
rising_up at n p (suc q) h l m =
    let s : get_or at q 0 < get_or at (suc q) 0 = follows_up at q (h (suc q) m) in
    ⊎_elim
    (λ (e : p ≡ q). let z : get_or at p 0 ≡ get_or at q 0 = ap (λ (x : ℕ). get_or at x 0) e in omega arith)
    (λ (e : p ≡ q → ⊥). let z : get_or at p 0 < get_or at q 0 = rising_up at n p q h (omega arith) (omega arith) in omega arith)
    (cases_eq p q)

-- ---- what stands among the first

pub not_among : (at : List ℕ) (n k : ℕ) → ((p : ℕ) → p < n → get_or at p 0 ≡ k → ⊥) → among at n k ≡ false
unfolding among
not_among at zero k h = refl
not_among at (suc n) k h = or_from (among at n k) (eqb (get_or at n 0) k) (not_among at n k (λ p l. h p (omega arith))) (ne_eqb _ _ (h n (omega arith)))

pub among_more : (at : List ℕ) (n k : ℕ) → among at (n + 1) k ≡ (among at n k || eqb (get_or at n 0) k)
unfolding among
among_more at n k = ap (λ (x : ℕ). among at x k) (add-one n)

-- no number above 191 is listed
pub listed_low : (at : List ℕ) (len k : ℕ) → 192 ≤ k → listed at len k ≡ false
listed_low at len k h = not_among at (reach at len) k (λ p l e. let low : get_or at p 0 < 192 = follows_low at p (run_rises at (min len 192) p l) in omega arith)

pub listed_none : (at : List ℕ) (k : ℕ) → listed at 0 k ≡ false
unfolding among
listed_none at k = ap (λ (m : ℕ). among at m k) (run_none at)

-- a row of one number
pub listed_one : (at : List ℕ) (n k : ℕ) → get_or at 0 0 ≡ n → listed at 1 k ≡ (eqb k n && ltb n 192)
unfolding among
listed_one at n k e =
    let z = run_none at in
    ⊎_elim
    (λ (y : (run at 0 ≡ 0) × (follows at 0 ≡ true) × (run at 1 ≡ 1)).
    let low : get_or at 0 0 < 192 = follows_low at 0 y.1 in
    ap (λ (m : ℕ). among at m k) y.2 ∙ ap (λ (x : ℕ). eqb x k) e ∙ grind (arith, nat_tests))
    (λ (y : (run at 0 ≡ 0 → follows at 0 ≡ false) × (run at 1 ≡ run at 0)).
    let no : follows at 0 ≡ false = y.0 z in
    ap (λ (m : ℕ). among at m k) (y.1 ∙ z) ∙ grind (arith, nat_tests))
    (run_cases at 0)

-- as many members as places
rising_tally : (at : List ℕ) (m : ℕ) → Rising at m → m ≡ tally (among at m) 192
unfolding among
rising_tally at zero r = sym (tally_empty 192)
rising_tally at (suc m) r =
    let i : m ≡ tally (among at m) 192 = rising_tally at m (λ p h. r p (omega arith)) in
    let new : among at m (get_or at m 0) ≡ false = not_among at m (get_or at m 0) (λ p h e. let z : get_or at p 0 < get_or at m 0 = rising_up at (suc m) p m r h (omega arith) in omega arith) in
    let s = tally_plus (among at m) (get_or at m 0) 192 (follows_low at m (r m (omega arith))) new in
    let z : suc m ≡ tally (among at m) 192 + 1 = omega arith in
    z ∙ sym s

pub reach_tally : (at : List ℕ) (len : ℕ) → reach at len ≡ tally (listed at len) 192
reach_tally at len = rising_tally at (reach at len) (run_rises at (min len 192))
