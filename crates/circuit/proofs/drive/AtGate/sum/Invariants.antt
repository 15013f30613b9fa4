use Rattle.std.proofs.Common.{◌≡◌, ℕ}
use Rattle.circuit.specs.Gates.{sum, Sees}
use Rattle.circuit.proofs.drive.AtGate.sum.Given as goal

abbrev pub invariant-loop-p : goal.invariant-loop-p
invariant-loop-p g l =
    (n : ℕ) (pin : ℕ → g.T.Signal.Meaning)
    → Sees g.T.Signal.meaning n (goal.P-post g l.self.pin.now) l.self.gate.now pin
    → g.T.Signal.meaning l.any n ≡ sum g.T.Signal.logic pin l.self.gate.now.pins l.terms l.p
