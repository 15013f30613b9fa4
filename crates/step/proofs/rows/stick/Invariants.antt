use Rattle.std.proofs.Common.{◌≡◌, ℕ, fold}
use Rattle.ternary.specs.Logics.{by_tracks}
use Rattle.track.specs.Answers.{answers}
use Rattle.step.proofs.Sticking.{held_by}
use Rattle.step.proofs.rows.stick.Given as goal

abbrev pub invariant-loop-n : goal.invariant-loop-n
invariant-loop-n g l =
    let m = g.S.FaultSet.member in
    (f : ℕ) → answers m l.tracks f ≡ fold (held_by by_tracks.const l.index.list f) (answers m l.initial.tracks f) l.yielded
