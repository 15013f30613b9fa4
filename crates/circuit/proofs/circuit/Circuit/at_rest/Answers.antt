use Rattle.std.proofs.Common.{sym}
use Rattle.circuit.proofs.Trimmed.{rest_from_restless}
use Rattle.circuit.proofs.circuit.Circuit.at_rest.Goals as goal

pub invariant_of-result : goal.invariant_of-result
invariant_of-result c = rw c.netlist.ensures (record { lawful = c.args.design.lawful; rest = rest_from_restless c.args.design.netlist (sym c.in_default.ensures) })
