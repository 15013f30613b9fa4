-- The numbers that three words of 64 bits hold.
use Rattle.std.specs.Prelude.{◌≡◌, ℕ, ◌<◌, ◌≤◌, ◌/◌, ◌%◌, ◌^◌, Bool, true, false, ◌&&◌, List, Option, MatchOption, ◌==◌, nat_lt, slice_index}

-- bit j of a word is set
unfoldable pub bit : ℕ → ℕ → Bool
bit word j = word / 2 ^ j % 2 == 1

-- number n is held by bit n % 64 of word n / 64, and no number above 191 is held
abbrev pub in_words : List ℕ → ℕ → Bool
in_words words n = nat_lt n 192 && bit (slice_index words (n / 64)) (n % 64)

-- the answer is the smallest number at or above n of which f holds
abbrev pub IsLowest : (ℕ → Bool) → ℕ → Option ℕ → Type 0
IsLowest f n answer = MatchOption answer ((k : ℕ) → n ≤ k → f k ≡ false) (λ m. (n ≤ m) × (f m ≡ true) × ((k : ℕ) → n ≤ k → k < m → f k ≡ false))
