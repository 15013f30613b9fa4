-- What a walk over a set goes through.
use Rattle.std.specs.Prelude.{ℕ, zero, suc, Bool, false, cond, ◌||◌, List, [], ◌∷◌, ◌++◌, ◌==◌, nat_le, filter}

-- the members below the bound, each after all smaller ones
unfoldable pub members_below : (ℕ → Bool) → ℕ → List ℕ
members_below f zero = []
members_below f (suc n) = cond (f n) (members_below f n ++ (n ∷ [])) (members_below f n)

-- the members from a number on
abbrev pub members_from : (ℕ → Bool) → ℕ → List ℕ
members_from f n = filter (nat_le n) (members_below f 192)

-- whether a number stands in a list
unfoldable pub contains : List ℕ → ℕ → Bool
contains [] k = false
contains (x ∷ xs) k = x == k || contains xs k
