use Rattle.phases.specs.Reads.{changed_at, read_by}
use Rattle.phases.specs.Passes.{next_of}
use Rattle.phases.proofs.Gates.{Drafted}
use Rattle.phases.proofs.pass.Pass.write_drafts.Given as goal

abbrev pub invariant-loop-k : goal.invariant-loop-k
invariant-loop-k g l =
    Drafted g.S.FaultSet.member l.inputs (read_by (changed_at l.self.changes.now.line) l.self.circuit.now.netlist) l.initial.lines
    (next_of g.S.FaultSet.member l.self.circuit.now l.self.index.now.list l.self.phase l.initial.lines) l.k l.lines
