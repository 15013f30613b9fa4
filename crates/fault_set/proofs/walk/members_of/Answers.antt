use Rattle.std.proofs.lemmas.Iterator.Consumers.{YieldsList-from_first}
use Rattle.fault_set.proofs.walk.members_of.Goals as goal

pub returns-clause-shown : goal.returns-clause-shown
returns-clause-shown g c = (YieldsList-from_first (λ n. n) _ _ c.new.ensures).runs
