use Rattle.switching.proofs.Theorem.{proved}
use Rattle.switching.proofs.every_order_is_covered.Goals as goal

pub returns : goal.returns
returns c = proved
