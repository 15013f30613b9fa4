use Rattle.std.proofs.Common.{◌+◌, List, set, sym, ap, ◌∙◌, subst, arith}
use Rattle.ternary.specs.declared.Value.{Value}
use Rattle.ternary.specs.Logics.{tracks}
use Rattle.switching.specs.Lines.{Lines}
use Rattle.switching.specs.Phases.{taken, target}
use Rattle.track.specs.declared.table.Line.{Line}
use Rattle.phases.specs.Reads.{changed_at, read_by}
use Rattle.phases.specs.Passes.{numbered, next_of}
use Rattle.phases.proofs.Gates.{Drafted, none_drafted, one_drafted}
use Rattle.step.specs.declared.rows.Reading.TheVariants.{Whole}
use Rattle.phases.proofs.Rows.{reading_same, readable_same}
use Rattle.phases.proofs.pass.Pass.write_drafts.Goals as goal
use Rattle.phases.proofs.pass.Pass.write_drafts.Goals.{then-read_by, else-read_by}

pub loop-k-preserved : goal.loop-k-preserved
loop-k-preserved g c =
    let m = g.S.FaultSet.member in
    let P = c.inputs-inputs.result in
    let read = read_by (changed_at c.args.self.now.changes.now.line) c.args.self.now.circuit.now.netlist in
    let first = c.args.lines.now in
    let v = next_of m c.args.self.now.circuit.now c.args.self.now.index.now.list c.args.self.now.phase first in
    let same = reading_same m c.args.self.now.circuit.now.netlist.inputs c.loop-k.lines first c.loop-k.invariant.held in
    elim c.if-read_by.branch [
      | then-read_by w ↦ subst (λ (ls : List (Line g.row.S.Denot)). Drafted m P read first v (c.loop-k.k + 1) ls) (sym (w.lines-is ∙ ap (set c.loop-k.lines (P + c.loop-k.k)) w.put_draft.ensures))
          (one_drafted m P read first v c.loop-k.k c.loop-k.lines c.loop-k.invariant w.index-lines-inputs.result w.next_of-next.result
          (sym c.read_by.ensures ∙ w.if-read_by.true) (omega (arith, c.inputs-inputs.ensures, c.gates-k-end.ensures, c.requires.rows.room))
          (λ n. w.next_of-next.ensures n ∙ rw (w.new-gate.ensures.circuit, w.new-gate.ensures.index, w.new-gate.ensures.lines, w.new-gate.ensures.gate)
          (ap (λ (A : Lines Value). tracks (taken c.args.self.now.phase (A.gate c.loop-k.k) (target (numbered c.args.self.now.circuit.now c.args.self.now.index.now.list n) A c.loop-k.k))) (same n))))
      | else-read_by w ↦ subst (λ (ls : List (Line g.row.S.Denot)). Drafted m P read first v (c.loop-k.k + 1) ls) (sym w.lines-is)
          (none_drafted m P read first v c.loop-k.k c.loop-k.lines c.loop-k.invariant (sym c.read_by.ensures ∙ w.if-read_by.false))
    ]

pub new-gate-requires-clause-rows : goal.new-gate-requires-clause-rows
new-gate-requires-clause-rows g c = readable_same g.S.FaultSet.member Whole _ c.loop-k.lines c.args.lines.now c.loop-k.invariant.held (omega arith) c.requires.rows
