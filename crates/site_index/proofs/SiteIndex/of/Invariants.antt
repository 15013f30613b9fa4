use Rattle.site_index.proofs.Tables.{Right}
use Rattle.site_index.proofs.SiteIndex.of.Given as goal

abbrev pub invariant-loop-n : goal.invariant-loop-n
invariant-loop-n l = Right l.list l.n l.first l.next
