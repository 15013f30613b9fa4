-- A walk along two lists of rising numbers at once that keeps some of them in a row.
use Rattle.std.proofs.Common.{◌≡◌, ℕ, zero, suc, ◌+◌, ◌-◌, ◌<◌, ◌≤◌, min, Bool, true, false, cond, ◌&&◌, ◌||◌, eqb, ltb, ◌⊎◌, ◌≢◌, List, [], ◌∷◌, ◌++◌, length, get_or, set, take, drop, Some, sym, refl, ap, ◌∙◌, ap₂, subst, ⊎_elim, arith, length-set, get_or-set_other, get_or-set_same}
use Rattle.std.proofs.Math.Bool.{or-false}
use Rattle.std.proofs.lemmas.Bool.{cases_lt, cases_eq, lt-ltb, eq-eqb, ne_eqb, and_from, and_left, or_from, or_left, or_right, cond-true, cond-false}
use Rattle.std.proofs.lemmas.List.Elements.{All-nil, All-cons, Contains-append_cases}
use Rattle.std.specs.Bool.{MatchBool}
use Rattle.std.specs.Cmp.Lexicographic.{pointwise}
use Rattle.std.specs.List.{All, Contains, slice_get}
use Rattle.rising.specs.Rows.{follows, reach, among, listed, held}
use Rattle.rising.proofs.Rising.{Rising, reach_is, not_among, among_more}
use Rattle.rising.proofs.Held.{with_next, next_some, next_none, has, has_below, Ranked, ranked_tail, ranked_head, held_ranked, held_has}

-- ---- what has been kept

-- the first o numbers of the row rise and are below v, and each number below v is as wanted among them
pub record Kept (at : List ℕ) (o v : ℕ) (wanted : ℕ → Bool → Type 0) : Type 0 where
  pub few : o ≤ v
  pub long : length at ≡ 192
  pub rising : Rising at o
  pub below : (p : ℕ) → p < o → get_or at p 0 < v
  pub is : (k : ℕ) → k < v → wanted k (among at o k)

-- none from v on was kept
kept_above : (at : List ℕ) (o v : ℕ) (wanted : ℕ → Bool → Type 0) → Kept at o v wanted → (k : ℕ) → v ≤ k → among at o k ≡ false
kept_above at o v wanted c k h = not_among at o k (λ p t e. let z : get_or at p 0 < v = c.below p t in omega arith)

among_set : (at : List ℕ) (i x n k : ℕ) → n ≤ i → among (set at i x) n k ≡ among at n k
unfolding among
among_set at i x zero k h = refl
among_set at i x (suc n) k h = ap₂ (λ (a : Bool) (y : ℕ). a || eqb y k) (among_set at i x n k (omega arith)) (get_or-set_other at i n x 0 (λ e. omega arith))

follows_set : (at : List ℕ) (i x p : ℕ) → p < i → follows (set at i x) p ≡ follows at p
follows_set at i x p h =
    ap₂ (λ (y z : ℕ). ltb y 192 && (eqb p 0 || ltb z y)) (get_or-set_other at i p x 0 (λ e. omega arith)) (get_or-set_other at i (p - 1) x 0 (λ e. omega arith))

-- a number above all before follows
put_follows : (at : List ℕ) (o x : ℕ) → o < length at → x < 192 → ((p : ℕ) → p < o → get_or at p 0 < x) → follows (set at o x) o ≡ true
put_follows at o x h low up =
    let e : get_or (set at o x) o 0 ≡ x = get_or-set_same at o x 0 h in
    and_from _ _ (lt-ltb (get_or (set at o x) o 0) 192 (omega arith))
    (⊎_elim
    (λ (z : o ≡ 0). ap (λ (b : Bool). b || ltb (get_or (set at o x) (o - 1) 0) (get_or (set at o x) o 0)) (eq-eqb o 0 z))
    (λ (z : o ≡ 0 → ⊥).
    let d : get_or (set at o x) (o - 1) 0 ≡ get_or at (o - 1) 0 = get_or-set_other at o (o - 1) x 0 (λ q. omega arith) in
    let u : get_or at (o - 1) 0 < x = up (o - 1) (omega arith) in
    or_right (eqb o 0) _ (lt-ltb (get_or (set at o x) (o - 1) 0) (get_or (set at o x) o 0) (omega arith)))
    (cases_eq o 0))

-- the number put behind the first o is among the first o + 1
put_among : (at : List ℕ) (o n k : ℕ) → o < length at → among (set at o n) (o + 1) k ≡ (among at o k || eqb n k)
put_among at o n k room = among_more (set at o n) o k ∙ ap₂ (λ (a : Bool) (x : ℕ). a || eqb x k) (among_set at o n o k (omega arith)) (get_or-set_same at o n 0 room)

module _ (at : List ℕ) (o v n : ℕ) (wanted : ℕ → Bool → Type 0) (c : Kept at o v wanted) (h : v ≤ n) (gap : (k : ℕ) → v ≤ k → k < n → wanted k false) where
  kept_put : n < 192 → wanted n true → Kept (set at o n) (o + 1) (n + 1) wanted
  kept_put low hit =
      let room : o < length at = let y = c.few in let z = c.long in omega arith in
      let put : get_or (set at o n) o 0 ≡ n = get_or-set_same at o n 0 room in
      record {
        few = let z = c.few in omega arith;
        long = length-set at o n ∙ c.long;
        rising = λ p q. ⊎_elim
            (λ (s : p ≡ o). ap (follows (set at o n)) s ∙ put_follows at o n room low (λ r t. let z : get_or at r 0 < v = c.below r t in omega arith))
            (λ (s : p ≡ o → ⊥). follows_set at o n p (omega arith) ∙ c.rising p (omega arith))
            (cases_eq p o);
        below = λ p q. ⊎_elim
            (λ (s : p ≡ o). let z : get_or (set at o n) p 0 ≡ get_or (set at o n) o 0 = ap (λ (x : ℕ). get_or (set at o n) x 0) s in omega arith)
            (λ (s : p ≡ o → ⊥).
            let z : get_or at p 0 < v = c.below p (omega arith) in
            let y : get_or (set at o n) p 0 ≡ get_or at p 0 = get_or-set_other at o p n 0 s in
            omega arith)
            (cases_eq p o);
        is = λ k q.
            let now = put_among at o n k room in
            ⊎_elim
            (λ (s : k < v).
            subst (wanted k) (sym (now ∙ ap (λ (b : Bool). among at o k || b) (ne_eqb n k (λ e. omega arith)) ∙ or-false (among at o k))) (c.is k s))
            (λ (s : v ≤ k).
            let new : among (set at o n) (o + 1) k ≡ eqb n k = now ∙ ap (λ (b : Bool). b || eqb n k) (kept_above at o v wanted c k s) in
            ⊎_elim
            (λ (t : n ≡ k). subst (wanted k) (sym (new ∙ eq-eqb n k t)) (subst (λ (x : ℕ). wanted x true) t hit))
            (λ (t : n ≡ k → ⊥). subst (wanted k) (sym (new ∙ ne_eqb n k t)) (gap k s (omega arith)))
            (cases_eq n k))
            (cases_lt k v);
      }

  kept_pass : wanted n false → Kept at o (n + 1) wanted
  kept_pass miss = record {
    few = let z = c.few in omega arith;
    long = c.long;
    rising = c.rising;
    below = λ p q. let z : get_or at p 0 < v = c.below p q in omega arith;
    is = λ k q. ⊎_elim
        (λ (s : k < v). c.is k s)
        (λ (s : v ≤ k).
        subst (wanted k) (sym (kept_above at o v wanted c k s))
        (⊎_elim (λ (t : n ≡ k). subst (λ (x : ℕ). wanted x false) t miss) (λ (t : n ≡ k → ⊥). gap k s (omega arith)) (cases_eq n k)))
        (cases_lt k v);
  }

-- nothing more is wanted: the row is done
kept_all : (at : List ℕ) (o v : ℕ) (wanted : ℕ → Bool → Type 0) → Kept at o v wanted → v ≤ 192 → ((k : ℕ) → v ≤ k → wanted k false) → (k : ℕ) → wanted k (listed at o k)
kept_all at o v wanted c top gap k =
    let few = c.few in
    let r : reach at o ≡ o = reach_is at o o c.rising (omega arith) (λ h. absurd (omega arith)) in
    subst (wanted k) (ap (λ (m : ℕ). among at m k) (sym r))
    (⊎_elim (λ (s : k < v). c.is k s) (λ (s : v ≤ k). subst (wanted k) (sym (kept_above at o v wanted c k s)) (gap k s)) (cases_lt k v))

-- ---- a step of one walk

-- what is left of the walk: the numbers from v on that pass f
pub record Ahead (f : ℕ → Bool) (xs : List ℕ) (v : ℕ) : Type 0 where
  pub ranked : Ranked xs
  pub above : (i : ℕ) → i < length xs → v ≤ get_or xs i 0
  pub is : (k : ℕ) → v ≤ k → f k ≡ has xs k

-- n stands first
abbrev pub begins : List ℕ → ℕ → Bool
begins xs n = pointwise eqb (take 1 xs) (n ∷ [])

-- and what is left once it is taken
abbrev pub after : List ℕ → ℕ → List ℕ
after xs n = cond (begins xs n) (drop 1 xs) xs

begins_head : (x : ℕ) (xs : List ℕ) (n : ℕ) → x ≡ n → begins (x ∷ xs) n ≡ true
begins_head x xs n e = and_from (eqb x n) true (eq-eqb x n e) refl

begins_other : (x : ℕ) (xs : List ℕ) (n : ℕ) → (x ≡ n → ⊥) → begins (x ∷ xs) n ≡ false
begins_other x xs n ne = and_left (eqb x n) true (ne_eqb x n ne)

-- a step that takes n, where no number left is below n
record Step (f : ℕ → Bool) (xs : List ℕ) (v n : ℕ) : Type 0 where
  here : f n ≡ begins xs n
  gap : (k : ℕ) → v ≤ k → k < n → f k ≡ false
  rest : Ahead f (after xs n) (n + 1)

step : (f : ℕ → Bool) (xs : List ℕ) (v n : ℕ) → Ahead f xs v → v ≤ n → All (λ x. n ≤ x) (take 1 xs) → Step f xs v n
step f [] v n a h low = record {
  here = a.is n h;
  gap = λ k p q. a.is k p;
  rest = record { ranked = a.ranked; above = λ i l. absurd (omega arith); is = λ k p. a.is k (omega arith) };
}
step f (x ∷ xs) v n a h low =
    let least : n ≤ x = low 0 0 (omega arith) in
    record {
      here = ⊎_elim
          (λ (e : x ≡ n). a.is n h ∙ or_left (eqb x n) (has xs n) (eq-eqb x n e) ∙ sym (begins_head x xs n e))
          (λ (ne : x ≡ n → ⊥). a.is n h ∙ has_below (x ∷ xs) n (all_from n (omega arith)) ∙ sym (begins_other x xs n ne))
          (cases_eq x n);
      gap = λ k p q. a.is k p ∙ has_below (x ∷ xs) k (all_from k (omega arith));
      rest = ⊎_elim
          (λ (e : x ≡ n). rw (begins_head x xs n e) (record {
            ranked = ranked_tail x xs a.ranked;
            above = λ i l. let z = ranked_head x xs a.ranked i l in omega arith;
            is = λ k p. a.is k (omega arith) ∙ ap (λ (b : Bool). b || has xs k) (ne_eqb x k (λ q. omega arith));
          }))
          (λ (ne : x ≡ n → ⊥). rw (begins_other x xs n ne) (record { ranked = a.ranked; above = λ i l. let z = all_from n (omega arith) i l in omega arith; is = λ k p. a.is k (omega arith) }))
          (cases_eq x n);
    }
  where
    all_from : (k : ℕ) → k < x → (i : ℕ) → i < length (x ∷ xs) → k < get_or (x ∷ xs) i 0
    all_from k l zero p = l
    all_from k l (suc i) p = let z = ranked_head x xs a.ranked i (omega arith) in omega arith

-- ---- the whole walk

-- what is to become of k: where either set has it, what the test may say of the two, and else nothing
abbrev pub Wanted : (Bool → Bool → Bool → Type 0) → (ℕ → Bool) → (ℕ → Bool) → ℕ → Bool → Type 0
Wanted says f g k r = MatchBool (f k || g k) (says (f k) (g k) r) (r ≡ false)

-- both walks, and what has been kept, stand at one number
pub record Merging (says : Bool → Bool → Bool → Type 0) (f g : ℕ → Bool) (xs ys : List ℕ) (out : List ℕ) (o : ℕ) : Type 0 where
  pub v : ℕ
  pub top : v ≤ 192
  pub left : Ahead f xs v
  pub right : Ahead g ys v
  pub kept : Kept out o v (Wanted says f g)

-- n is the lowest of two lists
abbrev pub LowestOf : List ℕ → List ℕ → ℕ → Type 0
LowestOf xs ys n = Contains (xs ++ ys) n × All (λ x. n ≤ x) xs × All (λ x. n ≤ x) ys

-- n is the lowest of the numbers that stand first
abbrev pub Lowest : List ℕ → List ℕ → ℕ → Type 0
Lowest xs ys n = LowestOf (take 1 xs) (take 1 ys) n

first_known : (f : ℕ → Bool) (xs : List ℕ) (v n : ℕ) → Ahead f xs v → Contains (take 1 xs) n → (begins xs n ≡ true) × (v ≤ n) × (n < 192)
first_known f [] v n a c = let z = c.1 in absurd (omega arith)
first_known f (x ∷ xs) v n a c =
    let i = c.0 in
    let l = c.1 in
    let z : i ≡ 0 = omega arith in
    let e : x ≡ n = subst (λ (i : ℕ). get_or (x ∷ []) i n ≡ n) z c.2 in
    let m : v ≤ x = a.above 0 (omega arith) in
    let b : x < 192 = a.ranked.low 0 (omega arith) in
    (begins_head x xs n e, omega arith, omega arith)

-- the lowest number stands first in either list
lowest_known : (f g : ℕ → Bool) (xs ys : List ℕ) (v n : ℕ) → Ahead f xs v → Ahead g ys v → Lowest xs ys n → ((begins xs n || begins ys n) ≡ true) × (v ≤ n) × (n < 192)
lowest_known f g xs ys v n a b l =
    ⊎_elim
    (λ c. let k = first_known f xs v n a c in (or_left (begins xs n) (begins ys n) k.0, k.1, k.2))
    (λ c. let k = first_known g ys v n b c in (or_right (begins xs n) (begins ys n) k.0, k.1, k.2))
    (Contains-append_cases (take 1 xs) (take 1 ys) n l.0)

wanted_none : (says : Bool → Bool → Bool → Type 0) (f g : ℕ → Bool) (k : ℕ) → f k ≡ false → g k ≡ false → Wanted says f g k false
wanted_none says f g k a b = subst (λ (t : Bool). MatchBool t (says (f k) (g k) false) (false ≡ false)) (sym (or_from (f k) (g k) a b)) refl

wanted_here : (says : Bool → Bool → Bool → Type 0) (f g : ℕ → Bool) (k : ℕ) (a b r : Bool) → f k ≡ a → g k ≡ b → (a || b) ≡ true → says a b r → Wanted says f g k r
wanted_here says f g k a b r ea eb hit s =
    subst (λ (t : Bool). MatchBool t (says (f k) (g k) r) (r ≡ false)) (sym (ap₂ ◌||◌ ea eb ∙ hit)) (rw (ea, eb) s)

-- n was put behind the first o numbers, or was not
abbrev pub Pushed : Bool → ℕ → List ℕ → ℕ → List ℕ → ℕ → Type 0
Pushed put n out o out' o' = ((put ≡ true) × (out' ≡ set out o n) × (o' ≡ o + 1)) ⊎ ((put ≡ false) × (out' ≡ out) × (o' ≡ o))

module _ (says : Bool → Bool → Bool → Type 0) (f g : ℕ → Bool) where
  pub merging_more : (xs ys : List ℕ) (out : List ℕ) (o n : ℕ) (put : Bool) (out' : List ℕ) (o' : ℕ) → Merging says f g xs ys out o → Lowest xs ys n →
      says (begins xs n) (begins ys n) put → Pushed put n out o out' o' → Merging says f g (after xs n) (after ys n) out' o'
  merging_more xs ys out o n put out' o' m l said pushed =
      let known = lowest_known f g xs ys m.v n m.left m.right l in
      let from : m.v ≤ n = known.1 in
      let low : n < 192 = known.2 in
      let a = step f xs m.v n m.left from l.1 in
      let b = step g ys m.v n m.right from l.2 in
      let gap = λ (k : ℕ) (p : m.v ≤ k) (q : k < n). wanted_none says f g k (a.gap k p q) (b.gap k p q) in
      let here : Wanted says f g n put = wanted_here says f g n (begins xs n) (begins ys n) put a.here b.here known.0 said in
      record {
        v = n + 1;
        top = omega arith;
        left = a.rest;
        right = b.rest;
        kept = ⊎_elim
            (λ p. rw (p.1, p.2) (kept_put out o m.v n (Wanted says f g) m.kept from gap low (subst (Wanted says f g n) p.0 here)))
            (λ p. rw (p.1, p.2) (kept_pass out o m.v n (Wanted says f g) m.kept from gap (subst (Wanted says f g n) p.0 here)))
            pushed;
      }

  -- no number is left
  pub merging_all : (out : List ℕ) (o : ℕ) → Merging says f g [] [] out o → (k : ℕ) → Wanted says f g k (listed out o k)
  merging_all out o m = kept_all out o m.v (Wanted says f g) m.kept m.top (λ k h. wanted_none says f g k (m.left.is k h) (m.right.is k h))

  -- the row has room for one more
  pub merging_room : (xs ys : List ℕ) (out : List ℕ) (o n : ℕ) → Merging says f g xs ys out o → Lowest xs ys n → o < 192
  merging_room xs ys out o n m l = let known = lowest_known f g xs ys m.v n m.left m.right l in let few = m.kept.few in omega arith

-- ---- what the calls of a walk say

lowest_two : (x y n : ℕ) → n ≡ min x y → LowestOf (x ∷ []) (y ∷ []) n
lowest_two x y n e = (
  ⊎_elim (λ (l : x < y). (0, omega arith, omega arith)) (λ (l : y ≤ x). (1, omega arith, omega arith)) (cases_lt x y),
  All-cons (λ z. n ≤ z) x [] (omega arith) (All-nil (λ z. n ≤ z)),
  All-cons (λ z. n ≤ z) y [] (omega arith) (All-nil (λ z. n ≤ z)),
)

lowest_at : (xs xs' ys ys' : List ℕ) (n : ℕ) → xs ≡ xs' → ys ≡ ys' → Lowest xs' ys' n → Lowest xs ys n
lowest_at xs xs' ys ys' n p q l = subst (λ (zs : List ℕ). Lowest zs ys n) (sym p) (subst (λ (zs : List ℕ). Lowest xs' zs n) (sym q) l)

-- the lower of the two that come next
pub lowest_next : (a b n : ℕ) (xs ys : List ℕ) → (192 ≤ a → xs ≡ []) → (192 ≤ b → ys ≡ []) → n ≡ min a b → n < 192 → Lowest (with_next a xs) (with_next b ys) n
lowest_next a b n xs ys p q e h =
    ⊎_elim
    (λ (l : a < 192).
    ⊎_elim
    (λ (m : b < 192). lowest_at _ (a ∷ xs) _ (b ∷ ys) n (next_some a xs l) (next_some b ys m) (lowest_two a b n e))
    (λ (m : 192 ≤ b).
    lowest_at _ (a ∷ xs) _ [] n (next_some a xs l) (next_none b ys q m) ((0, omega arith, omega arith), All-cons (λ z. n ≤ z) a [] (omega arith) (All-nil (λ z. n ≤ z)), All-nil (λ z. n ≤ z)))
    (cases_lt b 192))
    (λ (l : 192 ≤ a).
    ⊎_elim
    (λ (m : b < 192).
    lowest_at _ [] _ (b ∷ ys) n (next_none a xs p l) (next_some b ys m) ((0, omega arith, omega arith), All-nil (λ z. n ≤ z), All-cons (λ z. n ≤ z) b [] (omega arith) (All-nil (λ z. n ≤ z))))
    (λ (m : 192 ≤ b). absurd (omega arith))
    (cases_lt b 192))
    (cases_lt a 192)

-- n came off the front, or did not stand there
abbrev pub Taken : List ℕ → ℕ → Bool → List ℕ → Type 0
Taken xs n b ys = MatchBool b (xs ≡ n ∷ ys) ((ys ≡ xs) × (slice_get xs 0 ≢ Some n))

pub taken_begins : (xs : List ℕ) (n : ℕ) (b : Bool) (ys : List ℕ) → Taken xs n b ys → b ≡ begins xs n
taken_begins xs n true ys t = sym (ap (λ (zs : List ℕ). begins zs n) t ∙ begins_head n ys n refl)
taken_begins [] n false ys t = refl
taken_begins (x ∷ xs) n false ys t = sym (begins_other x xs n (λ e. t.1 (ap Some e)))

pub taken_after : (xs : List ℕ) (n : ℕ) (b : Bool) (ys : List ℕ) → Taken xs n b ys → ys ≡ after xs n
taken_after xs n true ys t = sym (ap (λ (zs : List ℕ). after zs n) t ∙ cond-true (begins (n ∷ ys) n) ys (n ∷ ys) (begins_head n ys n refl))
taken_after xs n false ys t = t.0 ∙ sym (cond-false (begins xs n) (drop 1 xs) xs (sym (taken_begins xs n false ys t)))

-- a step by what each walk says of n
pub merging_taken : (says : Bool → Bool → Bool → Type 0) (f g : ℕ → Bool) (xs ys : List ℕ) (out : List ℕ) (o n : ℕ) (a b put : Bool) (xs' ys' : List ℕ) (out' : List ℕ) (o' : ℕ) →
    Merging says f g xs ys out o → Lowest xs ys n → Taken xs n a xs' → Taken ys n b ys' → says a b put → Pushed put n out o out' o' → Merging says f g xs' ys' out' o'
merging_taken says f g xs ys out o n a b put xs' ys' out' o' m l s t said pushed =
    subst (λ (zs : List ℕ). Merging says f g zs ys' out' o') (sym (taken_after xs n a xs' s))
    (subst (λ (zs : List ℕ). Merging says f g (after xs n) zs out' o') (sym (taken_after ys n b ys' t))
    (merging_more says f g xs ys out o n put out' o' m l
    (subst (λ (c : Bool). says c (begins ys n) put) (taken_begins xs n a xs' s) (subst (λ (c : Bool). says a c put) (taken_begins ys n b ys' t) said))
    pushed))

-- ---- the start

ahead_held : (at : List ℕ) (len : ℕ) → length at ≡ 192 → Ahead (listed at len) (held at len) 0
ahead_held at len long = record { ranked = held_ranked at len long; above = λ i l. omega arith; is = λ k p. held_has at len long k }

pub merging_none : (says : Bool → Bool → Bool → Type 0) (a : List ℕ) (la : ℕ) (b : List ℕ) (lb : ℕ) (out : List ℕ) → length a ≡ 192 → length b ≡ 192 → length out ≡ 192 →
    Merging says (listed a la) (listed b lb) (held a la) (held b lb) out 0
merging_none says a la b lb out ea eb eo = record {
  v = 0;
  top = omega arith;
  left = ahead_held a la ea;
  right = ahead_held b lb eb;
  kept = record {
    few = omega arith;
    long = eo;
    rising = λ p h. absurd (omega arith);
    below = λ p h. absurd (omega arith);
    is = λ k h. absurd (omega arith);
  };
}
