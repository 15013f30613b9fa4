use Rattle.std.proofs.Common.{◌∙◌}
use Rattle.ternary.proofs.Keeps.{tracks_kept}
use Rattle.step.proofs.Good.{stuck_good}
use Rattle.step.proofs.rows.line_of.Goals as goal

-- the good circuit is that of number 192, which no fault has
pub returns-clause-good : goal.returns-clause-good
returns-clause-good g c =
    stuck_good g.S.FaultSet.member g.met.S.FaultSet.within c.args.index.now.list _ c.constant-tracks.result c.stick.new.tracks c.stick.ensures
    ∙ c.constant-tracks.ensures 192
    ∙ tracks_kept.const c.args.bit
