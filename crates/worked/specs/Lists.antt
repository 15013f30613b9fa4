-- Fault lists through one gate, by the rules for two parts.
use Rattle.std.specs.Prelude.{◌≡◌, ℕ, Bool, false, not, ◌||◌, List, [], ◌∷◌, ◌==◌}
use Rattle.ternary.specs.Logics.{Logic, Tracks as Pair, by_tracks}
use Rattle.circuit.specs.declared.gate.Gate.{Gate}
use Rattle.circuit.specs.Gates.{driven}
use Rattle.track.specs.Rules.{Part, says, all_of, any_of}

-- both tracks of a line
pub record Parts : Type 0 where
  pub one : Part
  pub zero : Part

-- an AND may be 1 if all parts may, and may be 0 if any part may; NOT swaps the tracks
abbrev pub by_lists : Logic Parts
by_lists = record {
  const = λ b. record { one = record { good = b; differs = λ n. false }; zero = record { good = not b; differs = λ n. false } };
  both = λ v w. record { one = all_of (v.one ∷ w.one ∷ []); zero = any_of (v.zero ∷ w.zero ∷ []) };
  either = λ v w. record { one = any_of (v.one ∷ w.one ∷ []); zero = all_of (v.zero ∷ w.zero ∷ []) };
  invert = λ v. record { one = v.zero; zero = v.one };
}

abbrev pub among : List ℕ → ℕ → Bool
among [] n = false
among (m ∷ ms) n = n == m || among ms n

-- a line that is settled in all circuits: its good value, and the circuits that have the other one
abbrev pub settled_at : Bool → List ℕ → Parts
settled_at good list = record { one = record { good = good; differs = among list }; zero = record { good = not good; differs = among list } }

-- what circuit n has
abbrev pub says_both : Parts → ℕ → Pair
says_both v n = record { may_be_1 = says v.one n; may_be_0 = says v.zero n }

-- a gate worked out on lists gives each circuit what it would give by itself
abbrev pub ListsThroughAGate : Type 0
ListsThroughAGate = (g : Gate) (pin : ℕ → Parts) (own : Parts) (n : ℕ) → says_both (driven by_lists g pin own) n ≡ driven by_tracks g (λ j. says_both (pin j) n) (says_both own n)
