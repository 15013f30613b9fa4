use Rattle.std.proofs.Common.{◌≡◌, ◌+◌, ◌≤◌, [], length}
use Rattle.rising.proofs.Merge.{Merging}
use Rattle.rising.specs.Rows.{listed}
use Rattle.number_list.specs.Left.{left, ahead}
use Rattle.number_list.proofs.numbers.Numbers.merged.Given as goal

abbrev pub invariant-loop-ours : goal.invariant-loop-ours
invariant-loop-ours g l = record {
  merging : Merging (goal.F-post g l.keep) (listed l.self.at l.self.len) (listed l.other.at l.other.len) (ahead l.our_next l.ours) (ahead l.their_next l.theirs) l.out.at l.out.len;
  ours : 192 ≤ l.our_next → left l.ours ≡ [];
  theirs : 192 ≤ l.their_next → left l.theirs ≡ [];
}

abbrev pub decreases-loop-ours : goal.decreases-loop-ours
decreases-loop-ours g l = length (ahead l.our_next l.ours) + length (ahead l.their_next l.theirs)
