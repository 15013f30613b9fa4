-- Which set a row of numbers stands for, whatever stands in it: its longest beginning in which each number is above the one
-- before and none is above 191.
use Rattle.std.specs.Prelude.{ℕ, zero, suc, ◌+◌, ◌-◌, min, Bool, false, cond, ◌&&◌, ◌||◌, List, [], ◌∷◌, take, drop, ◌==◌, nat_lt, nat_le, slice_index}

-- the number at place p is at most 191, and it is the first or above the one before
abbrev pub follows : List ℕ → ℕ → Bool
follows at p = nat_lt (slice_index at p) 192 && (p == 0 || nat_lt (slice_index at (p - 1)) (slice_index at p))

-- how many of the first n places that beginning has
unfoldable pub run : List ℕ → ℕ → ℕ
run at zero = 0
run at (suc n) = cond (run at n == n && follows at n) (suc n) (run at n)

-- the same of a row that says it has len numbers, and has 192 places
abbrev pub reach : List ℕ → ℕ → ℕ
reach at len = run at (min len 192)

-- k stands at one of the first n places
unfoldable pub among : List ℕ → ℕ → ℕ → Bool
among at zero k = false
among at (suc n) k = among at n k || slice_index at n == k

-- k is a member
abbrev pub listed : List ℕ → ℕ → ℕ → Bool
listed at len k = among at (reach at len) k

-- the beginning itself
abbrev pub held : List ℕ → ℕ → List ℕ
held at len = take (reach at len) at

-- the numbers that a list begins with: each is at least the least that may come, which behind a number is one more, and none is above 191
abbrev pub rise : ℕ → List ℕ → List ℕ
rise least [] = []
rise least (n ∷ ns) = cond (nat_le least n && nat_lt n 192) (n ∷ rise (n + 1) ns) []

-- the least number that may come at a place: one more than the number before
abbrev pub least_at : List ℕ → ℕ → ℕ
least_at at zero = 0
least_at at (suc p) = slice_index at p + 1

-- the numbers that a list goes on with from a place on
abbrev pub rise_at : List ℕ → ℕ → List ℕ
rise_at at p = rise (least_at at p) (drop p at)
