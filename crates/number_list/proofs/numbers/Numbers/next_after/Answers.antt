use Rattle.std.proofs.Common.{◌≡◌, ◌∙◌, length, sym, arith}
use Rattle.rising.proofs.Held.{Next, onward_held, onward_more, next_listed}
use Rattle.rising.specs.Rows.{listed}
use Rattle.number_list.specs.Left.{left}
use Rattle.number_list.proofs.numbers.Numbers.next_after.Goals as goal

pub loop-init : goal.loop-init
loop-init c = let long : length c.args.self.now.at ≡ 192 = omega arith in rw c.numbers-numbers.ensures (onward_held c.args.self.now.at c.args.self.now.len c.args.n long)

pub loop-preserved : goal.loop-preserved
loop-preserved c =
    onward_more _ c.args.n (left c.loop.numbers) c.next_below.result (left c.next_below.new.self) c.loop.invariant (rw c.min.ensures at c.next_below.ensures)
    (sym c.is_some.ensures ∙ c.loop-test.true)

pub returns : goal.returns
returns c =
    let next : Next (listed c.args.self.now.at c.args.self.now.len) c.args.n c.take_next.result =
    next_listed _ c.args.n (left c.loop.numbers) c.next_below.result (left c.next_below.new.self) c.take_next.result (left c.take_next.new.self) c.loop.invariant
    (rw c.min.ensures at c.next_below.ensures) (sym c.is_some.ensures ∙ c.loop-test.false) c.take_next.ensures.bound c.take_next.ensures.next c.take_next.ensures.none
    in
    record { bound = next.bound; least = next.least; found = next.found }
