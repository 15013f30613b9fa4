-- How a tally is put together.
use Rattle.std.proofs.Common.{◌≡◌, ℕ, zero, suc, ◌+◌, ◌<◌, ◌≤◌, Bool, true, false, refl, ap, ◌∙◌, ap₂, arith}
use Rattle.fault_set.specs.Members.{one, tally}

-- a tally depends only on the numbers below its bound
pub tally_same : (f g : ℕ → Bool) (n : ℕ) → ((k : ℕ) → k < n → f k ≡ g k) → tally f n ≡ tally g n
unfolding tally
tally_same f g zero h = refl
tally_same f g (suc n) h = ap₂ (λ (x : ℕ) (b : Bool). x + one b) (tally_same f g n (λ k l. h k (omega arith))) (h n (omega arith))

-- the numbers below m, and the n after them
pub tally_split : (f : ℕ → Bool) (m n : ℕ) → tally f (m + n) ≡ tally f m + tally (λ k. f (m + k)) n
unfolding tally
tally_split f m zero = let e : m + 0 ≡ m = omega arith in ap (tally f) e ∙ omega arith
tally_split f m (suc n) = let e : m + suc n ≡ suc (m + n) = omega arith in ap (tally f) e ∙ ap (λ (x : ℕ). x + one (f (m + n))) (tally_split f m n) ∙ omega arith

-- no more than there are numbers below the bound
pub tally_le : (f : ℕ → Bool) (n : ℕ) → tally f n ≤ n
unfolding tally
tally_le f zero = omega arith
tally_le f (suc n) = let h = tally_le f n in let o = one_le (f n) in omega arith
  where
    one_le : (b : Bool) → one b ≤ 1
    one_le true = omega arith
    one_le false = omega arith
