-- What a list in the making holds: a list of faults, of which the first 192 are kept.
use Rattle.std.specs.Prelude.{◌≡◌, ◌≤◌, List, length, take}
use Rattle.circuit.specs.declared.site.Fault.{Fault}
use Rattle.job.specs.declared.made.Making.{Making}

pub record Holds (m : Making) (faults : List Fault) : Type 0 where
  pub counted : m.length ≡ length faults
  pub kept : m.length ≤ 192 → take m.length m.fault ≡ faults
