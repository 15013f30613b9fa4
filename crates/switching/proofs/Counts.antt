-- Rows of G values that only rise, each made from the row before: they come to rest within G passes.
use Rattle.std.proofs.Common.{◌≡◌, ℕ, zero, suc, ◌+◌, ◌<◌, ◌≤◌, ◌⊎◌, sym, refl, ◌∙◌, subst, inl, inr, arith}
use native.Mathlib.Decide.{dec_le, dec_lt, le_ind}
use Rattle.ternary.specs.declared.Value.{Value}
use Rattle.switching.specs.Lines.{Each}
use Rattle.switching.specs.Theorem.{First, Most}

each_more : (n : ℕ) (P : ℕ → Type 0) → Each n P → P n → Each (suc n) P
each_more n P below here i lt =
    elim (dec_lt i n) [ yes h ↦ below i h | no h ↦ (let e : n ≡ i = omega arith in subst P e here) ]

-- R is the order in which values rise, and rank, 0 or 1, tells how far
module _ (R : Value → Value → Type 0) (rank : Value → ℕ) (top : (v : Value) → rank v ≤ 1)
    (up : (v w : Value) → R v w → rank v ≤ rank w) (stop : (v w : Value) → R v w → rank w ≤ rank v → v ≡ w) where
  count : (ℕ → Value) → ℕ → ℕ
  count f zero = 0
  count f (suc n) = rank (f n) + count f n

  count_top : (f : ℕ → Value) (n : ℕ) → count f n ≤ n
  unfolding count
  count_top f zero = omega arith
  count_top f (suc n) = omega (arith, top (f n), count_top f n)

  count_up : (f g : ℕ → Value) (n : ℕ) → Each n (λ k. R (f k) (g k)) → count f n ≤ count g n
  unfolding count
  count_up f g zero h = omega arith
  count_up f g (suc n) h = omega (arith, up (f n) (g n) (h n (omega arith)), count_up f g n (λ k lt. h k (omega arith)))

  -- a row that does not count for more is the same row
  count_stop : (f g : ℕ → Value) (n : ℕ) → Each n (λ k. R (f k) (g k)) → count g n ≤ count f n → Each n (λ k. f k ≡ g k)
  unfolding count
  count_stop f g zero h e = λ i lt. absurd (omega arith)
  count_stop f g (suc n) h e =
      let below : Each n (λ k. R (f k) (g k)) = λ k lt. h k (omega arith) in
      let here : R (f n) (g n) = h n (omega arith) in
      let more : count f n ≤ count g n = count_up f g n below in
      let last : rank (f n) ≤ rank (g n) = up (f n) (g n) here in
      each_more n (λ k. f k ≡ g k) (count_stop f g n below (omega arith)) (stop (f n) (g n) here (omega arith))

  module _ (G : ℕ) (row : ℕ → ℕ → Value) (rises : (j : ℕ) → Each G (λ k. R (row j k) (row (suc j) k)))
      (stays : (j : ℕ) → Each G (λ k. row j k ≡ row (suc j) k) → Each G (λ k. row (suc j) k ≡ row (suc (suc j)) k)) where
    risen : (j : ℕ) → (j ≤ count (row j) G) ⊎ Each G (λ k. row j k ≡ row (suc j) k)
    risen zero = inl (omega arith)
    risen (suc j) = elim (risen j) [
      | inl h ↦ elim (dec_le (count (row (suc j)) G) (count (row j) G)) [
        | yes e ↦ inr (stays j (count_stop (row j) (row (suc j)) G (rises j) e))
        | no e ↦ inl (omega arith)
      ]
      | inr e ↦ inr (stays j e)
    ]

    pub comes_to_rest : Each G (λ k. row G k ≡ row (suc G) k)
    comes_to_rest = elim (risen G) [
      | inl h ↦ count_stop (row G) (row (suc G)) G (rises G) (omega (arith, count_top (row (suc G)) G))
      | inr e ↦ e
    ]

-- a row that the next pass does not change stays as it is
module _ (G : ℕ) (row : ℕ → ℕ → Value)
    (stays : (j : ℕ) → Each G (λ k. row j k ≡ row (suc j) k) → Each G (λ k. row (suc j) k ≡ row (suc (suc j)) k)) where
  pub rest_lasts : (j m : ℕ) → Each G (λ k. row j k ≡ row (suc j) k) → j ≤ m → Each G (λ k. row m k ≡ row (suc m) k) × Each G (λ k. row j k ≡ row m k)
  rest_lasts j m r le =
      le_ind {n = j} (λ i. Each G (λ k. row i k ≡ row (suc i) k) × Each G (λ k. row j k ≡ row i k)) (r, (λ k lt. refl)) (λ i _ h. (stays i h.0, (λ k lt. h.1 k lt ∙ h.0 k lt))) m le

  -- so it is the row after G passes, if that rests too
  pub rest_is_one : Each G (λ k. row G k ≡ row (suc G) k) → (j : ℕ) → Each G (λ k. row j k ≡ row (suc j) k) → Each G (λ k. row j k ≡ row G k)
  rest_is_one g j r = elim (dec_le j G)
      [ yes le ↦ (rest_lasts j G r le).1 | no gt ↦ (let le : G ≤ j = omega arith in λ k lt. sym ((rest_lasts G j g le).1 k lt)) ]

-- properties that last once they hold: all of them first hold where the last one does
pub first_of_all : (m : ℕ) (P : ℕ → ℕ → Type 0) → ((i j l : ℕ) → i < m → P i j → j ≤ l → P i l) → (own : ℕ → ℕ) (all : ℕ)
    → Each m (λ i. First (P i) (own i)) → First (λ j. Each m (λ i. P i j)) all → Most m own all
first_of_all m P lasts own all each first = record {
  reached = λ i lt. elim (dec_le (own i) all) [ yes le ↦ le | no gt ↦ absurd ((each i lt).least all (omega arith) (first.has i lt)) ];
  least = λ b above. elim (dec_le all b) [
    | yes le ↦ le
    | no gt ↦ absurd (first.least b (omega arith) (λ i lt. lasts i (own i) b lt (each i lt).has (above i lt)))
  ];
}
