use Rattle.std.proofs.Common.{◌≡◌, ℕ}
use Rattle.circuit.specs.Gates.{product, Sees}
use Rattle.circuit.proofs.drive.AtGate.product.Given as goal

abbrev pub invariant-loop-j : goal.invariant-loop-j
invariant-loop-j g l =
    (n : ℕ) (pin : ℕ → g.T.Signal.Meaning)
    → Sees g.T.Signal.meaning n (goal.P-post g l.self.pin.now) l.self.gate.now pin
    → g.T.Signal.meaning l.every n ≡ product g.T.Signal.logic pin l.used l.inverted l.j
