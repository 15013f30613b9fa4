-- A walk along a row goes through the numbers that it holds.
use Rattle.std.proofs.Common.{◌≡◌, ℕ, zero, suc, ◌+◌, ◌-◌, ◌<◌, ◌≤◌, min, true, false, cond, ◌&&◌, eqb, ltb, leb, List, [], ◌∷◌, length, get_or, take, drop, drop-cons, add-one, sym, refl, ap, ◌∙◌, ⊎_elim, arith}
use Rattle.std.proofs.lemmas.Bool.{cases_Bool, cases_lt, lt-ltb, le-ltb, eq-eqb, ne_eqb, and_from, and_parts, and_cases, and_left, and_right, or_from, or_left, or_right, ltb-true, ltb-false, leb-true, leb-false, cond-true, cond-false}
use Rattle.std.proofs.lemmas.List.{nil_from_length, length-take-le, length-drop, get_or-take, take-take}
use Rattle.std.specs.List.{All}
use Rattle.rising.specs.Rows.{follows, held, rise, least_at, rise_at}
use Rattle.rising.proofs.Rising.{Rising, reach_is}

-- ys are the numbers that xs begins with, from the least on
record Begins (least : ℕ) (xs ys : List ℕ) : Type 0 where
  front : ys ≡ take (length ys) xs
  short : length ys ≤ length xs
  low : (i : ℕ) → i < length ys → get_or xs i 0 < 192
  first : 0 < length ys → least ≤ get_or xs 0 0
  up : (i : ℕ) → suc i < length ys → get_or xs i 0 < get_or xs (suc i) 0
  none : length ys ≡ 0 → 0 < length xs → get_or xs 0 0 < 192 → get_or xs 0 0 < least
  ends : (i : ℕ) → length ys ≡ suc i → suc i < length xs → get_or xs (suc i) 0 < 192 → get_or xs (suc i) 0 ≤ get_or xs i 0

begins : (least : ℕ) (xs : List ℕ) → Begins least xs (rise least xs)
begins least [] = record {
  front = refl;
  short = omega arith;
  low = λ i h. absurd (omega arith);
  first = λ h. absurd (omega arith);
  up = λ i h. absurd (omega arith);
  none = λ e h. absurd (omega arith);
  ends = λ i e h. absurd (omega arith);
}
begins least (x ∷ xs) =
    ⊎_elim
    (λ (t : (leb least x && ltb x 192) ≡ true).
    let both = and_parts (leb least x) (ltb x 192) t in
    rw (cond-true (leb least x && ltb x 192) (x ∷ rise (x + 1) xs) [] t)
    (goes_on least x xs (leb-true least x both.0) (ltb-true x 192 both.1) (rise (x + 1) xs) (begins (x + 1) xs)))
    (λ (t : (leb least x && ltb x 192) ≡ false).
    rw (cond-false (leb least x && ltb x 192) (x ∷ rise (x + 1) xs) [] t)
    (stops least x xs (⊎_elim
    (λ (a : leb least x ≡ false). let z = leb-false least x a in λ l. omega arith)
    (λ (a : ltb x 192 ≡ false). let z = ltb-false x 192 a in λ l. absurd (omega arith))
    (and_cases (leb least x) (ltb x 192) t))))
    (cases_Bool (leb least x && ltb x 192))
  where
    goes_on : (least x : ℕ) (xs : List ℕ) → least ≤ x → x < 192 → (ys : List ℕ) → Begins (x + 1) xs ys → Begins least (x ∷ xs) (x ∷ ys)
    goes_on least x xs from below ys b = record {
      front = ap (λ (zs : List ℕ). x ∷ zs) b.front;
      short = let z = b.short in omega arith;
      low = low;
      first = λ h. from;
      up = up;
      none = λ e h l. absurd (omega arith);
      ends = ends;
    }
      where
        low : (i : ℕ) → i < length (x ∷ ys) → get_or (x ∷ xs) i 0 < 192
        low zero h = below
        low (suc i) h = b.low i (omega arith)

        up : (i : ℕ) → suc i < length (x ∷ ys) → get_or (x ∷ xs) i 0 < get_or (x ∷ xs) (suc i) 0
        up zero h = let z = b.first (omega arith) in omega arith
        up (suc i) h = b.up i (omega arith)

        ends : (i : ℕ) → length (x ∷ ys) ≡ suc i → suc i < length (x ∷ xs) → get_or (x ∷ xs) (suc i) 0 < 192 → get_or (x ∷ xs) (suc i) 0 ≤ get_or (x ∷ xs) i 0
        ends zero e h l = let z = b.none (omega arith) (omega arith) l in omega arith
        ends (suc i) e h l = b.ends i (omega arith) (omega arith) l

    stops : (least x : ℕ) (xs : List ℕ) → (x < 192 → x < least) → Begins least (x ∷ xs) []
    stops least x xs below = record {
      front = refl;
      short = omega arith;
      low = λ i h. absurd (omega arith);
      first = λ h. absurd (omega arith);
      up = λ i h. absurd (omega arith);
      none = λ e h l. below l;
      ends = λ i e h. absurd (omega arith);
    }

module _ (at : List ℕ) (n : ℕ) (inside : n ≤ length at) (ys : List ℕ) (b : Begins 0 (take n at) ys) where
  short : length ys ≤ n
  short = let z = b.short in let e = length-take-le n at inside in omega arith

  is : (i : ℕ) → i < n → get_or (take n at) i 0 ≡ get_or at i 0
  is i h = get_or-take n at i 0 h

  rises : Rising at (length ys)
  rises zero h =
      let m = short in
      let e = is 0 (omega arith) in
      let l = b.low 0 h in
      and_from _ _ (lt-ltb (get_or at 0 0) 192 (omega arith)) (or_left (eqb 0 0) (ltb (get_or at (0 - 1) 0) (get_or at 0 0)) (eq-eqb 0 0 refl))
  rises (suc p) h =
      let m = short in
      let d : get_or (take n at) p 0 ≡ get_or at p 0 = is p (omega arith) in
      let e : get_or (take n at) (suc p) 0 ≡ get_or at (suc p) 0 = is (suc p) (omega arith) in
      let l = b.low (suc p) h in
      let u = b.up p h in
      let before : suc p - 1 ≡ p = omega arith in
      let v : get_or at (suc p - 1) 0 ≡ get_or at p 0 = ap (λ (i : ℕ). get_or at i 0) before in
      and_from _ _ (lt-ltb (get_or at (suc p) 0) 192 (omega arith)) (or_right (eqb (suc p) 0) _ (lt-ltb (get_or at (suc p - 1) 0) (get_or at (suc p) 0) (omega arith)))

  ends_at : (m : ℕ) → length ys ≡ m → m < n → follows at m ≡ false
  ends_at m e h =
      ⊎_elim
      (λ (low : get_or at m 0 < 192). stops m e h low)
      (λ (high : 192 ≤ get_or at m 0). and_left (ltb (get_or at m 0) 192) _ (le-ltb (get_or at m 0) 192 high))
      (cases_lt (get_or at m 0) 192)
    where
      long : length (take n at) ≡ n
      long = length-take-le n at inside

      stops : (m : ℕ) → length ys ≡ m → m < n → get_or at m 0 < 192 → follows at m ≡ false
      stops zero e h low =
          let z = long in
          let d = is 0 h in
          absurd (let y = b.none e (omega arith) (omega arith) in omega arith)
      stops (suc p) e h low =
          let z = long in
          let d : get_or (take n at) p 0 ≡ get_or at p 0 = is p (omega arith) in
          let f : get_or (take n at) (suc p) 0 ≡ get_or at (suc p) 0 = is (suc p) h in
          let y = b.ends p e (omega arith) (omega arith) in
          let before : suc p - 1 ≡ p = omega arith in
          let v : get_or at (suc p - 1) 0 ≡ get_or at p 0 = ap (λ (i : ℕ). get_or at i 0) before in
          and_right (ltb (get_or at (suc p) 0) 192) _
          (or_from (eqb (suc p) 0) _ (ne_eqb (suc p) 0 (λ q. omega arith)) (le-ltb (get_or at (suc p - 1) 0) (get_or at (suc p) 0) (omega arith)))

-- the numbers of the places in use, from the first on, are those that the row holds
pub rise_held : (at : List ℕ) (len : ℕ) → length at ≡ 192 → rise 0 (take (min len 192) at) ≡ held at len
rise_held at len long =
    let n = min len 192 in
    let inside : min len 192 ≤ length at = omega arith in
    let ys = rise 0 (take (min len 192) at) in
    let b = begins 0 (take (min len 192) at) in
    let few : length (rise 0 (take (min len 192) at)) ≤ min len 192 = short at (min len 192) inside ys b in
    b.front
    ∙ take-take (length (rise 0 (take (min len 192) at))) (min len 192) at few
    ∙ ap (λ (m : ℕ). take m at) (sym (reach_is at len (length (rise 0 (take (min len 192) at))) (rises at (min len 192) inside ys b) few (ends_at at (min len 192) inside ys b _ refl)))

-- no number above 191 comes, so if the next is not below 192, there is none
pub rise_low : (least : ℕ) (xs : List ℕ) → All (λ n. 192 ≤ n) (take 1 (rise least xs)) → rise least xs ≡ []
rise_low least [] high = refl
rise_low least (x ∷ xs) high =
    ⊎_elim
    (λ (t : (leb least x && ltb x 192) ≡ true).
    let e = cond-true (leb least x && ltb x 192) (x ∷ rise (x + 1) xs) [] t in
    let below = ltb-true x 192 (and_parts (leb least x) (ltb x 192) t).1 in
    let above : 192 ≤ x = (rw e at high) 0 0 (omega arith) in
    absurd (omega arith))
    (λ (t : (leb least x && ltb x 192) ≡ false). cond-false (leb least x && ltb x 192) (x ∷ rise (x + 1) xs) [] t)
    (cases_Bool (leb least x && ltb x 192))

-- ---- a step at a place

pub rise_past : (at : List ℕ) (p : ℕ) → length at ≤ p → rise_at at p ≡ []
rise_past at p h = ap (rise (least_at at p)) (nil_from_length (drop p at) (let e = length-drop p at in omega arith))

pub rise_step : (at : List ℕ) (p n : ℕ) → p < length at → n ≡ get_or at p 0 → rise_at at p ≡ cond (leb (least_at at p) n && ltb n 192) (n ∷ rise_at at (p + 1)) []
rise_step at p n h e =
    ap (rise (least_at at p)) (drop-cons at p 0 h)
    ∙ ap (λ (x : ℕ). cond (leb (least_at at p) x && ltb x 192) (x ∷ rise (x + 1) (drop (suc p) at)) []) (sym e)
    ∙ ap (λ (ys : List ℕ). cond (leb (least_at at p) n && ltb n 192) (n ∷ ys) []) (ap (λ (x : ℕ). rise (x + 1) (drop (suc p) at)) e ∙ ap (rise_at at) (sym (add-one p)))
