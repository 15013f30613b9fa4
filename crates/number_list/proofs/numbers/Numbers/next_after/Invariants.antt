use Rattle.std.proofs.Common.{length}
use Rattle.rising.proofs.Held.{Onward}
use Rattle.rising.specs.Rows.{listed}
use Rattle.number_list.specs.Left.{left}
use Rattle.number_list.proofs.numbers.Numbers.next_after.Given as goal

abbrev pub invariant-loop : goal.invariant-loop
invariant-loop l = Onward (listed l.self.at l.self.len) l.n (left l.numbers)

abbrev pub decreases-loop : goal.decreases-loop
decreases-loop l = length (left l.numbers)
