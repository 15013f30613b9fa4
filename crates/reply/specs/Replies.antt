-- The text that the program prints.
use Rattle.std.specs.Prelude.{ℕ, zero, suc, List, [], ◌∷◌, ◌++◌, length, Ok, Err, codes, decimal, Result}
use Rattle.refusal.specs.declared.CircuitFault.{CircuitFault}
use Rattle.refusal.specs.declared.GradingFault.{GradingFault}
use Rattle.refusal.specs.declared.GradingFault.TheVariants.{Circuit}
use Rattle.refusal.specs.Refusals.{refusal_text}
use Rattle.circuit.specs.declared.netlist.Netlist.{Netlist}
use Rattle.circuit.specs.declared.site.Fault.{Fault}
use Rattle.circuit.specs.Netlists.{fault_at}
use Rattle.circuit.specs.Texts.{fault_text}
use Rattle.format.specs.Descriptions.{Description}
use Rattle.format.specs.Reading.{job_of}
use Rattle.reply.specs.Inputs.{job_part}

-- a line ends with byte 10
abbrev pub newline : List ℕ
newline = 10 ∷ []

-- the first line: the counts
unfoldable pub counts_text : Netlist → ℕ → List ℕ
counts_text n faults =
    codes "inputs " ++ (decimal n.inputs ++ (codes " gates " ++ (decimal n.gates ++ (codes " outputs " ++ (decimal n.outputs ++ (codes " faults " ++ (decimal faults ++ newline)))))))

-- then a line for each of the first faults: its number, its site and its stuck value
abbrev pub fault_line : ℕ → Fault → List ℕ
fault_line number fault = decimal number ++ (codes " " ++ (fault_text fault ++ newline))

abbrev pub fault_lines : List Fault → ℕ → List ℕ
fault_lines faults zero = []
fault_lines faults (suc n) = fault_lines faults n ++ fault_line n (fault_at faults n)

abbrev pub listing : Description → List ℕ
listing d = counts_text d.netlist (length d.faults) ++ fault_lines d.faults (length d.faults)

-- a refusal of the layers below, as the grading layer passes it up
abbrev pub raised : Result Description CircuitFault → Result Description GradingFault
raised (Ok d) = Ok d
raised (Err e) = Err (Circuit e)

-- what was read, or the one line of its refusal
abbrev pub answer_text : Result Description GradingFault → List ℕ
answer_text (Ok d) = listing d
answer_text (Err e) = refusal_text e ++ newline

abbrev pub reply_text : List ℕ → List ℕ
reply_text input = answer_text (raised (job_of (job_part input)))
