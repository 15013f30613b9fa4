use Rattle.std.proofs.Common.{◌≡◌, ◌+◌, ◌*◌, List, ◌++◌}
use Rattle.circuit.specs.declared.site.Fault.{Fault}
use Rattle.format.specs.Descriptions.{pins_of}
use Rattle.job.specs.Making.{Holds}
use Rattle.job.proofs.made.Making.add_pins.Given as goal

abbrev pub invariant-loop-pin : goal.invariant-loop-pin
invariant-loop-pin l = (l.self.length ≡ l.initial.self.length + 2 * l.pin) × ((faults : List Fault) → Holds l.initial.self faults → Holds l.self (faults ++ pins_of l.line l.pin))
