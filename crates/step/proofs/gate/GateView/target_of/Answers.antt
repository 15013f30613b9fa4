use Rattle.std.proofs.Common.{Option, sym, ◌∙◌, ap₂, arith}
use Rattle.ternary.specs.declared.Value.{Value}
use Rattle.ternary.specs.Logics.{tracks}
use Rattle.circuit.specs.declared.site.Fault.{Fault}
use Rattle.switching.specs.Lines.{Lines}
use Rattle.switching.specs.Chips.{chip}
use Rattle.switching.specs.Phases.{target}
use Rattle.site_index.proofs.Leading.{fault_past}
use Rattle.step.proofs.Gates.{target_tracks}
use Rattle.step.proofs.Good.{answers_good, reading_good}
use Rattle.step.proofs.gate.GateView.target_of.Goals as goal

pub returns-clause-faulty : goal.returns-clause-faulty
returns-clause-faulty g c = λ n.
    let m = g.S.FaultSet.member in
    let view = c.args.self.now in
    target_tracks m view.lines.now n view.circuit.now.netlist view.index.now.list view.k (c.driven-tracks.ensures n) (c.stick_line.ensures n)

-- the good circuit is that of number 192, which no fault has
pub returns-clause-good : goal.returns-clause-good
returns-clause-good g c =
    let m = g.S.FaultSet.member in
    let w = c.args.self.now.circuit.now.netlist in
    sym (answers_good m g.met.S.FaultSet.within 192 (omega arith) c.stick_line.new.tracks)
    ∙ returns-clause-faulty g c 192
    ∙ ap₂ (λ (f : Option Fault) (A : Lines Value). tracks (target (chip w f) A c.args.self.now.k))
    (fault_past c.args.self.now.index.now.list 192 (omega arith))
    (reading_good m g.met.S.FaultSet.within 192 (omega arith) w.inputs c.args.self.now.lines.now)
