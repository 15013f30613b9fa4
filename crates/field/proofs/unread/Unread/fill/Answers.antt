use Rattle.std.proofs.Common.{refl}
use Rattle.std.proofs.lemmas.Result.{err_from_is_err_and}
use Rattle.field.proofs.Filling.{filled_more, filled_refused}
use Rattle.field.proofs.unread.Unread.fill.Goals as goal

pub returns-in_err-thing-clause-told : goal.returns-in_err-thing-clause-told
returns-in_err-thing-clause-told g c =
    let p = err_from_is_err_and c.from_residual.result c.from_residual.ensures.1 in
    rw (p.1, p.2) (filled_refused _ c.args.table.now c.args.self c.loop-at.table c.loop-at.left c.loop-at.at _ c.loop-at-test.true refl c.loop-at.invariant c.in_err-thing.field-0.0 c.in_err-thing.ensures)

pub loop-at-preserved : goal.loop-at-preserved
loop-at-preserved g c = filled_more _ c.args.table.now c.args.self c.loop-at.table c.loop-at.left c.loop-at.at _ c.loop-at-test.true refl c.loop-at.invariant c.in_ok-thing.rest c.in_ok-thing.thing c.in_ok-thing.ensures
