use Rattle.std.proofs.Common.{◌≡◌, ℕ}
use Rattle.circuit.specs.Gates.{all, hold, Sees}
use Rattle.circuit.proofs.drive.AtGate.c_element.Given as goal

abbrev pub invariant-loop-j : goal.invariant-loop-j
invariant-loop-j g l =
    (n : ℕ) (pin : ℕ → g.T.Signal.Meaning)
    → Sees g.T.Signal.meaning n (goal.P-post g l.self.pin.now) l.self.gate.now pin
    → (g.T.Signal.meaning l.every n ≡ all g.T.Signal.logic pin l.inverted l.j)
    × (g.T.Signal.meaning l.held n ≡ hold g.T.Signal.logic pin (g.T.Signal.meaning l.self.own.now n) l.inverted l.j)
