use Rattle.std.proofs.Common.{◌≡◌, ◌∙◌, ◌≤◌, length, inl, inr, sym, refl, arith}
use Rattle.std.proofs.lemmas.Bool.{ltb-true, ltb-false}
use Rattle.rising.proofs.Held.{next_none}
use Rattle.rising.proofs.Merge.{merging_none, merging_taken, merging_room, merging_all, lowest_next}
use Rattle.number_list.specs.Left.{left, ahead}
use Rattle.number_list.proofs.numbers.Numbers.merged.Goals as goal

pub loop-ours-init : goal.loop-ours-init
loop-ours-init g c =
    let a : length c.args.self.now.at ≡ 192 = omega arith in
    let b : length c.args.other.now.at ≡ 192 = omega arith in
    let out : length c.none-out.result.at ≡ 192 = omega arith in
    record {
      merging = rw (c.take_next-our_next.ensures.next ∙ c.numbers-ours.ensures, c.take_next-their_next.ensures.next ∙ c.numbers-theirs.ensures, c.none-out.ensures.len)
          (merging_none _ _ _ _ _ _ a b out);
      ours = c.take_next-our_next.ensures.none;
      theirs = c.take_next-their_next.ensures.none;
    }

pub push-requires : goal.push-requires
push-requires g c =
    merging_room _ _ _ _ _ _ _ _ c.loop-ours.invariant.merging
    (lowest_next c.loop-ours.our_next c.loop-ours.their_next c.min-n.result (left c.loop-ours.ours) (left c.loop-ours.theirs) c.loop-ours.invariant.ours c.loop-ours.invariant.theirs
    c.min-n.ensures (ltb-true c.min-n.result 192 (sym c.is_number.ensures ∙ c.if-not-is_number.false)))

pub loop-ours-preserved-then-keep : goal.loop-ours-preserved-then-keep
loop-ours-preserved-then-keep g c = record {
  merging = merging_taken _ _ _ (ahead c.loop-ours.our_next c.loop-ours.ours) (ahead c.loop-ours.their_next c.loop-ours.theirs) c.loop-ours.out.at c.loop-ours.out.len c.min-n.result
      c.pass-we_have.result c.pass-they_have.result c.keep.result _ _ _ _ c.loop-ours.invariant.merging
      (lowest_next c.loop-ours.our_next c.loop-ours.their_next c.min-n.result (left c.loop-ours.ours) (left c.loop-ours.theirs) c.loop-ours.invariant.ours c.loop-ours.invariant.theirs
      c.min-n.ensures (ltb-true c.min-n.result 192 (sym c.is_number.ensures ∙ c.if-not-is_number.false)))
      c.pass-we_have.ensures.taken c.pass-they_have.ensures.taken c.keep.ensures (inl (c.if-keep.true, c.push.ensures.at, c.push.ensures.len));
  ours = c.pass-we_have.ensures.none;
  theirs = c.pass-they_have.ensures.none;
}

pub loop-ours-preserved : goal.loop-ours-preserved
loop-ours-preserved g c = record {
  merging = merging_taken _ _ _ (ahead c.loop-ours.our_next c.loop-ours.ours) (ahead c.loop-ours.their_next c.loop-ours.theirs) c.loop-ours.out.at c.loop-ours.out.len c.min-n.result
      c.pass-we_have.result c.pass-they_have.result c.keep.result _ _ _ _ c.loop-ours.invariant.merging
      (lowest_next c.loop-ours.our_next c.loop-ours.their_next c.min-n.result (left c.loop-ours.ours) (left c.loop-ours.theirs) c.loop-ours.invariant.ours c.loop-ours.invariant.theirs
      c.min-n.ensures (ltb-true c.min-n.result 192 (sym c.is_number.ensures ∙ c.if-not-is_number.false)))
      c.pass-we_have.ensures.taken c.pass-they_have.ensures.taken c.keep.ensures (inr (c.if-keep.false, refl, refl));
  ours = c.pass-we_have.ensures.none;
  theirs = c.pass-they_have.ensures.none;
}

pub returns-then-not-is_number : goal.returns-then-not-is_number
returns-then-not-is_number g c =
    let top : 192 ≤ c.min-n.result = ltb-false c.min-n.result 192 (sym c.is_number.ensures ∙ c.if-not-is_number.true) in
    merging_all _ _ _ c.loop-ours.out.at c.loop-ours.out.len
    (rw (
      next_none c.loop-ours.our_next (left c.loop-ours.ours) c.loop-ours.invariant.ours (omega arith),
      next_none c.loop-ours.their_next (left c.loop-ours.theirs) c.loop-ours.invariant.theirs (omega arith),
    )
    at c.loop-ours.invariant.merging)
