-- Mending does not change what answers mean.
use Rattle.std.proofs.Common.{◌≡◌, Bool, true, false, refl}
use Rattle.track.specs.Answers.{whole, meaning, value}

pub value_whole : (a b : Bool) → meaning a b ≡ value (whole (record { may_be_1 = a; may_be_0 = b }))
value_whole true true = refl
value_whole true false = refl
value_whole false true = refl
value_whole false false = refl
