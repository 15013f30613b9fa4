-- The examples, by computation.
use Rattle.std.proofs.Common.{ℕ, zero, suc, ◌<◌, Bool, true, false, None, refl, inl, inr, arith}
use Rattle.circuit.specs.Gates.{literal, driven}
use Rattle.circuit.specs.Netlists.{buffer}
use Rattle.switching.specs.Lines.{Lines}
use Rattle.switching.specs.Chips.{chip}
use Rattle.switching.specs.Switching.{rest, step, Turn, none, turn}
use Rattle.switching.specs.Histories.{start_lines, beginning, begun}
use Rattle.switching.specs.Examples.{ExamplesHold, FewerTurnsFail}

pub examples_hold : ExamplesHold
unfolding literal driven
examples_hold = (refl, (refl, (refl, (refl, (refl, (refl, (refl, (refl, (refl, (refl, (refl, (refl, (refl, (refl, (refl, (refl, (refl, (refl, tt))))))))))))))))))

-- the one gate
first : (P : ℕ → Type 0) → P 0 → (k : ℕ) → k < 1 → P k
first P z zero lt = z
first P z (suc k) lt = absurd (omega arith)

-- both lines at 0
abbrev low : Lines Bool
low = beginning (chip buffer None) (start_lines buffer)

-- the input at 1, the gate still at 0
abbrev raised : Lines Bool
raised = record { input = λ i. true; gate = λ k. false }

idle_turn : Turn (chip buffer None) (start_lines buffer).input low low
unfolding literal driven
idle_turn = record { steps = rest; inputs = first _ (λ _. refl); gates = first _ (λ _. refl) }

-- the gate is found at its value, and then the input moves
late_turn : Turn (chip buffer None) (λ i. true) low raised
unfolding literal driven
late_turn = record {
  steps = step (record { inputs = first _ (inr (refl, refl)); gates = first _ (inl refl) }) rest;
  inputs = first _ (λ _. refl);
  gates = first _ (λ _. inl refl);
}

pub fewer_turns_fail : FewerTurnsFail
unfolding literal driven
fewer_turns_fail = record {
  before = low;
  run = begun (record { count = 2; enough = omega arith; turns = turn (turn none idle_turn) idle_turn });
  last = raised;
  turns = turn none late_turn;
  still_old = refl;
  settles_elsewhere = refl;
}
