-- What the contracts of a fault set say of its members.
use Rattle.std.specs.Prelude.{ℕ, zero, suc, ◌+◌, Bool, true, false}

-- one for a yes
abbrev pub one : Bool → ℕ
one true = 1
one false = 0

-- how many of the numbers below the bound are members
unfoldable pub tally : (ℕ → Bool) → ℕ → ℕ
tally f zero = 0
tally f (suc n) = tally f n + one (f n)
