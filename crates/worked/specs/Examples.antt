-- Worked examples, in one table.
use Rattle.std.specs.Prelude.{◌≡◌, ℕ, ◌<◌, true, false, List, [], ◌∷◌, slice_index_or}
use Rattle.circuit.specs.declared.gate.Gate.{Gate}
use Rattle.circuit.specs.declared.gate.Function.TheVariants.{Complex}
use Rattle.circuit.specs.Gates.{driven}
use Rattle.worked.specs.Lists.{Parts, by_lists, settled_at, says_both}

pub data Example : Type 0 where
  -- a gate, the lines that its pins read, and what it then drives
  lists : Gate → List Parts → Parts → Example

abbrev pub Holds : Example → Type 0
Holds (lists g pins out) = (n : ℕ) → n < 192 → says_both (driven by_lists g (λ j. slice_index_or pins j (settled_at false [])) (settled_at false [])) n ≡ says_both out n

abbrev pub All : List Example → Type 0
All [] = Unit {0}
All (e ∷ es) = Holds e × All es

-- (A and B) or (not A and not B and C)
abbrev pub alike_or_c : Gate
alike_or_c = record { pins = 3; pin = 0 ∷ 1 ∷ 2 ∷ []; function = Complex (record { products = 2; used = 3 ∷ 7 ∷ []; inverted = 0 ∷ 3 ∷ [] }) }

abbrev pub examples : List Example
examples =
    -- all at 1: fault 3 flips A and B, and the gate stays at 1
    lists alike_or_c (settled_at true (0 ∷ 3 ∷ 4 ∷ []) ∷ settled_at true (1 ∷ 3 ∷ 4 ∷ []) ∷ settled_at true (2 ∷ 4 ∷ 5 ∷ []) ∷ []) (settled_at true (0 ∷ 1 ∷ 4 ∷ []))
    ∷ []

abbrev pub ExamplesHold : Type 0
ExamplesHold = All examples
