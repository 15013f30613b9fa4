-- What is accepted is exactly what is written: the encodings of lawful jobs.
use Rattle.std.specs.Prelude.{◌≡◌, ℕ, List, Ok, Result}
use Rattle.refusal.specs.declared.CircuitFault.{CircuitFault}
use Rattle.format.specs.Descriptions.{Description, LawfulJob}
use Rattle.format.specs.Written.{Written}

-- a file is accepted and gives a job just where the job is lawful and the file stands for it
pub record Exactly (file : List ℕ) (answer : Result Description CircuitFault) : Type 0 where
  pub sound : (d : Description) → answer ≡ Ok d → LawfulJob d × Written d file
  pub complete : (d : Description) → LawfulJob d → Written d file → answer ≡ Ok d
