use Rattle.std.proofs.Common.{◌-◌, ◌≤◌, length}
use Rattle.grader.proofs.read_all.Given as goal

abbrev pub invariant-loop-at : goal.invariant-loop-at
invariant-loop-at l = l.at ≤ length l.buffer

abbrev pub decreases-loop-at : goal.decreases-loop-at
decreases-loop-at l = length l.initial.buffer - l.at
