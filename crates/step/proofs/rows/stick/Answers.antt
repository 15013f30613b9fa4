use Rattle.std.proofs.Common.{◌≡◌, ℕ, List, [], ◌++◌, cond, Bool, fold, append-nil, sym, ap, ◌∙◌}
use Rattle.ternary.specs.Logics.{by_tracks}
use Rattle.track.specs.Answers.{answers}
use Rattle.site_index.specs.Sites.{numbers_from}
use Rattle.site_index.specs.Numbers.{numbers_left}
use Rattle.step.proofs.Sticking.{held_by, held_all, so_far}
use Rattle.step.proofs.rows.stick.Goals as goal

pub returns : goal.returns
returns g c = λ f.
    let list = c.args.index.now.list in
    let numbers = numbers_from list c.args.site 0 in
    let was = answers g.S.FaultSet.member c.args.tracks.now f in
    let all : c.loop-n.yielded ≡ numbers =
    sym (append-nil c.loop-n.yielded)
    ∙ ap (λ (xs : List ℕ). c.loop-n.yielded ++ xs) (sym c.in-None.ensures.steps.0)
    ∙ sym (so_far numbers_left c.loop-n.yielded c.into_iter-n-iterator.result c.loop-n.n-iterator c.loop-n.yielded_by)
    ∙ ap numbers_left c.into_iter-n-iterator.ensures.into_iter_gives
    ∙ c.numbers_at-n-items.ensures
    ∙ ap (λ (b : Bool). cond b numbers []) c.requires in
    c.loop-n.invariant f ∙ ap (fold (held_by by_tracks.const list f) was) all ∙ held_all by_tracks.const list c.args.site f was
