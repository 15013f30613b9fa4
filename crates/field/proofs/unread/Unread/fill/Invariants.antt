use Rattle.field.proofs.Filling.{Far}
use Rattle.field.proofs.unread.Unread.fill.Given as goal

abbrev pub invariant-loop-at : goal.invariant-loop-at
invariant-loop-at g l = Far (goal.F-post g l.read) l.fn.table l.self l.at l.table l.left
