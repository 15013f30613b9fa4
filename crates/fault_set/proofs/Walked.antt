-- The list of the members below a bound, and what is left of it from a number on.
use Rattle.std.proofs.Common.{◌≡◌, ℕ, zero, suc, ◌+◌, ◌<◌, ◌≤◌, Bool, true, false, cond, ◌&&◌, ◌||◌, eqb, ltb, leb, ◌⊎◌, List, [], ◌∷◌, ◌++◌, length, filter, length-append, append-nil, sym, refl, ap, ap₂, ◌∙◌, inl, inr, ⊎_elim, arith}
use Rattle.std.proofs.lemmas.List.Elements.{filter-append}
use Rattle.std.proofs.lemmas.Bool.{cases_Bool, cases_lt, lt-ltb, le-ltb, le-leb, lt-leb, and_left, and_right, cond-true, cond-false}
use Rattle.std.proofs.lemmas.Bool.Decides.{nat_tests}
use Rattle.fault_set.specs.Members.{one, tally}
use Rattle.fault_set.specs.Walks.{members_below, contains}

-- a member comes last
members_with : (f : ℕ → Bool) (n : ℕ) → f n ≡ true → members_below f (suc n) ≡ members_below f n ++ (n ∷ [])
unfolding members_below
members_with f n e = cond-true (f n) (members_below f n ++ (n ∷ [])) (members_below f n) e

members_without : (f : ℕ → Bool) (n : ℕ) → f n ≡ false → members_below f (suc n) ≡ members_below f n
unfolding members_below
members_without f n e = cond-false (f n) (members_below f n ++ (n ∷ [])) (members_below f n) e

-- the members from a number on, below a bound, as the bound rises past one number: a member at or above it comes last, and any other is left out
abbrev cut : (ℕ → Bool) → ℕ → ℕ → List ℕ
cut f n bound = filter (leb n) (members_below f bound)

cut_takes : (f : ℕ → Bool) (n m : ℕ) → f m ≡ true → n ≤ m → cut f n (suc m) ≡ cut f n m ++ (m ∷ [])
cut_takes f n m e h = ap (filter (leb n)) (members_with f m e) ∙ filter-append (leb n) (members_below f m) (m ∷ []) ∙ ap (λ (b : Bool). cut f n m ++ cond b (m ∷ []) []) (le-leb n m h)

cut_leaves : (f : ℕ → Bool) (n m : ℕ) → f m ≡ false → cut f n (suc m) ≡ cut f n m
cut_leaves f n m e = ap (filter (leb n)) (members_without f m e)

cut_low : (f : ℕ → Bool) (n m : ℕ) → m < n → cut f n (suc m) ≡ cut f n m
cut_low f n m h =
    ⊎_elim
    (λ (e : f m ≡ true).
    ap (filter (leb n)) (members_with f m e) ∙ filter-append (leb n) (members_below f m) (m ∷ []) ∙ ap (λ (b : Bool). cut f n m ++ cond b (m ∷ []) []) (lt-leb n m h)
    ∙ append-nil (cut f n m))
    (λ (e : f m ≡ false). cut_leaves f n m e)
    (cases_Bool (f m))

-- with no member from a number on, nothing is left
pub left_none : (f : ℕ → Bool) (n bound : ℕ) → ((k : ℕ) → n ≤ k → k < bound → f k ≡ false) → cut f n bound ≡ []
unfolding members_below
left_none f n zero none = refl
left_none f n (suc m) none = here (cases_lt m n) ∙ left_none f n m (λ k p q. none k p (omega arith))
  where
    here : (m < n) ⊎ (n ≤ m) → cut f n (suc m) ≡ cut f n m
    here (inl l) = cut_low f n m l
    here (inr l) = cut_leaves f n m (none m l (omega arith))

-- the smallest member from a number on is the first that is left, and those above it are left after it
pub left_first : (f : ℕ → Bool) (n next bound : ℕ) → n ≤ next → next < bound → f next ≡ true → ((k : ℕ) → n ≤ k → k < next → f k ≡ false) →
    cut f n bound ≡ next ∷ cut f (next + 1) bound
left_first f n next zero low up e none = absurd (omega arith)
left_first f n next (suc m) low up e none = ⊎_elim (λ (l : next < m). above l (left_first f n next m low l e none)) here (cases_lt next m)
  where
    here : m ≤ next → cut f n (suc m) ≡ next ∷ cut f (next + 1) (suc m)
    here l =
        let at : m ≡ next = omega arith in
        cut_takes f n m (ap f at ∙ e) (omega arith) ∙ ap (λ (xs : List ℕ). xs ++ (m ∷ [])) (left_none f n m (λ k p q. none k p (omega arith)))
        ∙ ap₂ (λ (x : ℕ) (xs : List ℕ). x ∷ xs) at (sym (cut_low f (next + 1) m (omega arith) ∙ left_none f (next + 1) m (λ k p q. absurd (omega arith))))

    above : next < m → cut f n m ≡ next ∷ cut f (next + 1) m → cut f n (suc m) ≡ next ∷ cut f (next + 1) (suc m)
    above l before =
        ⊎_elim
        (λ (t : f m ≡ true).
        cut_takes f n m t (omega arith) ∙ ap (λ (xs : List ℕ). xs ++ (m ∷ [])) before ∙ ap (λ (xs : List ℕ). next ∷ xs) (sym (cut_takes f (next + 1) m t (omega arith))))
        (λ (t : f m ≡ false). cut_leaves f n m t ∙ before ∙ ap (λ (xs : List ℕ). next ∷ xs) (sym (cut_leaves f (next + 1) m t)))
        (cases_Bool (f m))

-- from 0 on, all are left
pub left_all : (xs : List ℕ) → filter (leb 0) xs ≡ xs
left_all [] = refl
left_all (x ∷ xs) = ap (λ (b : Bool). cond b (x ∷ filter (leb 0) xs) (filter (leb 0) xs)) (le-leb 0 x (omega arith)) ∙ ap (λ (ys : List ℕ). x ∷ ys) (left_all xs)

-- the list is as long as the tally says
pub length_below : (f : ℕ → Bool) (n : ℕ) → length (members_below f n) ≡ tally f n
unfolding members_below tally
length_below f zero = refl
length_below f (suc n) =
    ⊎_elim
    (λ (e : f n ≡ true). ap length (members_with f n e) ∙ length-append (members_below f n) (n ∷ []) ∙ ap₂ (λ (x : ℕ) (b : Bool). x + one b) (length_below f n) (sym e))
    (λ (e : f n ≡ false). ap length (members_without f n e) ∙ length_below f n ∙ let o = ap one e in omega arith)
    (cases_Bool (f n))

contains_last : (xs : List ℕ) (x k : ℕ) → contains (xs ++ (x ∷ [])) k ≡ (contains xs k || eqb x k)
unfolding contains
contains_last [] x k = or_false (eqb x k)
  where
    or_false : (b : Bool) → (b || false) ≡ (false || b)
    or_false true = refl
    or_false false = refl
contains_last (y ∷ ys) x k = ap (λ (b : Bool). eqb y k || b) (contains_last ys x k) ∙ or_regroup (eqb y k) (contains ys k) (eqb x k)
  where
    or_regroup : (a b c : Bool) → (a || (b || c)) ≡ ((a || b) || c)
    or_regroup true b c = refl
    or_regroup false b c = refl

-- the list has the members below the bound, and no other number
contains_below : (f : ℕ → Bool) (n k : ℕ) → contains (members_below f n) k ≡ (ltb k n && f k)
unfolding members_below contains
contains_below f zero k = sym (and_left (ltb k 0) (f k) (le-ltb k 0 (omega arith)))
contains_below f (suc n) k =
    ⊎_elim
    (λ (e : f n ≡ true).
    ap (λ (xs : List ℕ). contains xs k) (members_with f n e) ∙ contains_last (members_below f n) n k ∙ ap (λ (b : Bool). b || eqb n k) (contains_below f n k) ∙ with_last e)
    (λ (e : f n ≡ false). ap (λ (xs : List ℕ). contains xs k) (members_without f n e) ∙ contains_below f n k ∙ without_last e)
    (cases_Bool (f n))
  where
    with_last : f n ≡ true → ((ltb k n && f k) || eqb n k) ≡ (ltb k (suc n) && f k)
    with_last e = grind (arith, nat_tests)

    without_last : f n ≡ false → (ltb k n && f k) ≡ (ltb k (suc n) && f k)
    without_last e = grind (arith, nat_tests)

-- the list has all members, where there is none from the bound on
pub contains_members : (f : ℕ → Bool) (n : ℕ) → ((k : ℕ) → n ≤ k → f k ≡ false) → (k : ℕ) → contains (members_below f n) k ≡ f k
contains_members f n none k = contains_below f n k ∙ within (cases_lt k n)
  where
    within : (k < n) ⊎ (n ≤ k) → (ltb k n && f k) ≡ f k
    within (inl h) = ap (λ (b : Bool). b && f k) (lt-ltb k n h)
    within (inr h) = and_right (ltb k n) (f k) (none k h) ∙ sym (none k h)
