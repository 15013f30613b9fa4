-- What reading answers: the job as it is written down, or the refusal.
use Rattle.std.specs.Prelude.{take, Ok, Err, Result}
use Rattle.refusal.specs.declared.CircuitFault.{CircuitFault}
use Rattle.circuit.specs.Netlists.{trimmed}
use Rattle.format.specs.Descriptions.{Description}
use Rattle.job.specs.declared.job.Job.{Job}

abbrev pub described : Job → Description
described j = record { netlist = trimmed j.circuit.netlist; faults = take j.faults.count j.faults.fault }

abbrev pub gives : Result Job CircuitFault → Result Description CircuitFault
gives (Ok j) = Ok (described j)
gives (Err e) = Err e

-- an answer, with the job that was lent as it is then
abbrev pub answered : {A E : Type 0} → Result A E → Job → Result Description E
answered (Ok a) j = Ok (described j)
answered (Err e) j = Err e
