use Rattle.std.proofs.Common.{◌≡◌, ℕ, ◌+◌, List, set, sym, ap, ◌∙◌, subst, subst₂, arith}
use Rattle.track.specs.declared.table.Line.{Line}
use Rattle.phases.specs.declared.changes.Changes.{Changes}
use Rattle.phases.specs.Reads.{changed_at, read_by}
use Rattle.phases.proofs.Gates.{Committed, commits_begin, none_committed, one_committed}
use Rattle.phases.proofs.pass.Pass.commit.Goals as goal
use Rattle.phases.proofs.pass.Pass.commit.Goals.{then-read_by, else-read_by}

pub loop-k-init : goal.loop-k-init
loop-k-init g c =
    commits_begin g.S.FaultSet.member c.inputs-inputs.result (read_by (changed_at c.args.self.now.changes.now.line) c.args.self.now.circuit.now.netlist) c.args.lines.now c.none-next.result c.none-next.ensures

pub loop-k-preserved : goal.loop-k-preserved
loop-k-preserved g c =
    let m = g.S.FaultSet.member in
    let P = c.inputs-inputs.result in
    let read = read_by (changed_at c.args.self.now.changes.now.line) c.args.self.now.circuit.now.netlist in
    let first = c.args.lines.now in
    elim c.if-read_by.branch [
      | then-read_by w ↦ subst (λ (nx : Changes). Committed m P read first (c.loop-k.k + 1) c.if-read_by.lines nx.line nx.idle) (sym w.next-is)
          (one_committed m P read first c.loop-k.k c.loop-k.lines c.loop-k.next.line c.loop-k.next.idle c.loop-k.invariant
          c.if-read_by.lines w.index-lines-inputs.result w.note.new.self.line w.note.new.self.idle w.take_draft-same.result
          (sym c.read_by.ensures ∙ w.if-read_by.true) (omega (arith, c.inputs-inputs.ensures, c.gates-k-end.ensures)) (omega arith)
          (w.lines-is ∙ ap (set c.loop-k.lines (P + c.loop-k.k)) w.take_draft-same.ensures.row) w.take_draft-same.ensures.same w.note.ensures.here w.note.ensures.others w.note.ensures.idle)
      | else-read_by w ↦ subst₂ (λ (ls : List (Line g.row.S.Denot)) (nx : Changes). Committed m P read first (c.loop-k.k + 1) ls nx.line nx.idle) (sym w.lines-is) (sym w.next-is)
          (none_committed m P read first c.loop-k.k c.loop-k.lines c.loop-k.next.line c.loop-k.next.idle c.loop-k.invariant (sym c.read_by.ensures ∙ w.if-read_by.false))
    ]

pub returns : goal.returns
returns g c =
    let m = g.S.FaultSet.member in
    let read = read_by (changed_at c.args.self.now.changes.now.line) c.args.self.now.circuit.now.netlist in
    let e : c.loop-k.k ≡ c.args.self.now.circuit.now.netlist.gates = omega (arith, c.gates-k-end.ensures) in
    let h = subst₂ (λ (P k : ℕ). Committed m P read c.args.lines.now k c.loop-k.lines c.loop-k.next.line c.loop-k.next.idle) c.inputs-inputs.ensures e c.loop-k.invariant in
    record { elsewhere = h.elsewhere; rows = h.taken; changed = h.unchanged; idle = h.is_idle }
