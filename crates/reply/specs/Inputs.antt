-- The parts of the program's input.
use Rattle.std.specs.Prelude.{ℕ, ◌+◌, ◌*◌, List, [], ◌∷◌, take}

-- the job: as many bytes as the first two say, high byte first, as far as they are there; none where the two are cut off
abbrev pub job_part : List ℕ → List ℕ
job_part [] = []
job_part (high ∷ []) = []
job_part (high ∷ low ∷ rest) = take (256 * high + low) rest
