use Rattle.phases.specs.Reads.{changed_at, read_by}
use Rattle.phases.proofs.Gates.{Committed}
use Rattle.phases.proofs.pass.Pass.commit.Given as goal

abbrev pub invariant-loop-k : goal.invariant-loop-k
invariant-loop-k g l = Committed g.S.FaultSet.member l.inputs (read_by (changed_at l.self.changes.now.line) l.self.circuit.now.netlist) l.initial.lines l.k l.lines l.next.line l.next.idle
