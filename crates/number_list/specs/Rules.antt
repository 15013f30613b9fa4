-- What a test of two answers keeps of two sets.
use Rattle.std.specs.Prelude.{◌≡◌, ℕ, Bool, false, ◌||◌, MatchBool}

-- a number that either set has is in the third as the test says of the two answers, and no other number is
abbrev pub Keeps : (Bool → Bool → Bool → Type 0) → (ℕ → Bool) → (ℕ → Bool) → (ℕ → Bool) → Type 0
Keeps says a b c = (k : ℕ) → MatchBool (a k || b k) (says (a k) (b k) (c k)) (c k ≡ false)
