-- What comes of every file, field by field from left to right: the job, or what is refused and where.
use Rattle.std.specs.Prelude.{ℕ, zero, suc, ◌+◌, ◌-◌, ◌/◌, ◌%◌, Bool, false, cond, List, [], ◌∷◌, ◌++◌, length, replicate, Some, None, Ok, Err, Option, Result, nat_lt, slice_index}
use Rattle.refusal.specs.declared.FileFault.TheVariants.{Overlong}
use Rattle.refusal.specs.declared.CircuitFault.{CircuitFault}
use Rattle.refusal.specs.declared.CircuitFault.TheVariants.{File, Crowded, Restless}
use Rattle.circuit.specs.declared.gate.Function.{Function}
use Rattle.circuit.specs.declared.gate.Function.TheVariants.{Complex, CElement}
use Rattle.circuit.specs.declared.gate.Gate.{Gate}
use Rattle.circuit.specs.declared.netlist.Netlist.{Netlist}
use Rattle.circuit.specs.declared.site.Site.TheVariants.{Stem, Pin}
use Rattle.circuit.specs.declared.site.Fault.{Fault}
use Rattle.circuit.specs.Gates.{bit}
use Rattle.circuit.specs.Netlists.{gate_at, restless}
use Rattle.field.specs.declared.byte.Field.TheVariants.{Count, Bits, Place}
use Rattle.field.specs.declared.row.Row.TheVariants.{Outputs, Start, Pins, Used, Inverted}
use Rattle.field.specs.Fields.{Reading, byte_of, next, many}
use Rattle.field.specs.Rows.{row_of, low_bits}
use Rattle.format.specs.Descriptions.{Description, made}

-- a part that is read where its flag is set, and else has a value of its own
abbrev pub optional : {A : Type 0} → Bool → A → (List ℕ → Reading A) → List ℕ → Reading A
optional flag absent read s = cond flag (read s) (Ok (absent, s))

-- the products of a complex gate
abbrev pub complex_of : Bool → ℕ → ℕ → List ℕ → Reading Function
complex_of masks pins end s =
    next (byte_of (Count 1 8) end s) (λ products s.
    next (row_of (Used pins) products end s) (λ used s.
    next (optional masks (replicate products 0) (row_of (Inverted used) products end) s) (λ inverted s.
    Ok (Complex (record { products = products; used = used; inverted = inverted }), s))))

abbrev pub c_element_of : Bool → ℕ → ℕ → List ℕ → Reading Function
c_element_of masks pins end s =
    next (optional masks 0 (byte_of (Bits (low_bits pins)) end) s) (λ inverted s.
    Ok (CElement inverted, s))

abbrev pub function_of : ℕ → ℕ → ℕ → List ℕ → Reading Function
function_of map pins end s = cond (bit map 0) (complex_of (bit map 1) pins end s) (c_element_of (bit map 1) pins end s)

-- a gate's map and pin count
abbrev pub opening_of : ℕ → List ℕ → Reading (ℕ × ℕ)
opening_of end s =
    next (byte_of (Bits 3) end s) (λ map s.
    next (byte_of (Count (cond (bit map 0) 1 2) 8) end s) (λ pins s.
    Ok ((map, pins), s)))

abbrev pub gate_of : ℕ → ℕ → List ℕ → Reading Gate
gate_of lines end s =
    next (opening_of end s) (λ opening s.
    next (row_of (Pins lines) opening.1 end s) (λ pin s.
    next (function_of opening.0 opening.1 end s) (λ function s.
    Ok (record { pins = opening.1; pin = pin; function = function }, s))))

abbrev pub gates_of : ℕ → ℕ → ℕ → List ℕ → Reading (List Gate)
gates_of lines gates end s = many (λ before. gate_of lines end) gates [] s

-- the values of the first lines in start bytes
abbrev pub unpacked : List ℕ → ℕ → List Bool
unpacked bytes zero = []
unpacked bytes (suc n) = unpacked bytes n ++ bit (slice_index bytes (n / 8)) (n % 8) ∷ []

abbrev pub start_of : Bool → ℕ → ℕ → List ℕ → Reading (List Bool)
start_of flag lines end s =
    optional flag (replicate lines false) (λ s. next (row_of (Start lines) ((lines + 7) / 8) end s) (λ bytes s. Ok (unpacked bytes lines, s))) s

-- a fault, in a circuit with these inputs and gates
abbrev pub fault_of : ℕ → ℕ → List Gate → ℕ → List ℕ → Reading Fault
fault_of inputs lines gates end s =
    next (byte_of (Bits 3) end s) (λ map s.
    next (byte_of (Place (cond (bit map 1) inputs 0) lines) end s) (λ line s.
    cond (bit map 1)
    (next (byte_of (Place 0 (gate_at gates (line - inputs)).pins) end s) (λ pin s. Ok (record { site = Pin line pin; stuck = bit map 0 }, s)))
    (Ok (record { site = Stem line; stuck = bit map 0 }, s))))

abbrev pub faults_of : ℕ → ℕ → List Gate → ℕ → List ℕ → Reading (List Fault)
faults_of inputs lines gates end s =
    next (byte_of (Count 1 192) end s) (λ count s. many (λ before. fault_of inputs lines gates end) count [] s)

-- what the file says before its gates
pub record Head : Type 0 where
  pub map : ℕ
  pub inputs : ℕ
  pub gates : ℕ
  pub output : List ℕ
  pub start : List Bool

abbrev pub head_of : ℕ → List ℕ → Reading Head
head_of end s =
    next (byte_of (Bits 3) end s) (λ map s.
    next (byte_of (Count 1 8) end s) (λ inputs s.
    next (byte_of (Count 1 40) end s) (λ gates s.
    next (byte_of (Count 1 8) end s) (λ outputs s.
    next (row_of (Outputs inputs (inputs + gates)) outputs end s) (λ output s.
    next (start_of (bit map 0) (inputs + gates) end s) (λ start s.
    Ok (record { map = map; inputs = inputs; gates = gates; output = output; start = start }, s)))))))

abbrev pub netlist_of : Head → List Gate → Netlist
netlist_of h gates = record { inputs = h.inputs; gates = h.gates; gate = gates; outputs = length h.output; output = h.output; start = h.start }

-- the netlist, and the faults where the file names them
abbrev pub parts_of : ℕ → List ℕ → Reading (Netlist × Option (List Fault))
parts_of end s =
    next (head_of end s) (λ h s.
    next (gates_of (h.inputs + h.gates) h.gates end s) (λ gates s.
    next (optional (bit h.map 1) None (λ s. next (faults_of h.inputs (h.inputs + h.gates) gates end s) (λ faults s. Ok (Some faults, s))) s) (λ faults s.
    Ok ((netlist_of h gates, faults), s))))

-- a start that is not at rest is refused last
abbrev pub rested : Description → Option ℕ → Result Description CircuitFault
rested d None = Ok d
rested d (Some line) = Err (Restless line)

-- a made list that is too long is refused before that
abbrev pub graded : Netlist → Option (List Fault) → Result Description CircuitFault
graded n (Some faults) = rested (record { netlist = n; faults = faults }) (restless n)
graded n None = cond (nat_lt 192 (length (made n))) (Err (Crowded (length (made n)))) (rested (record { netlist = n; faults = made n }) (restless n))

-- and bytes that are left over before both
abbrev pub finished : ℕ → Reading (Netlist × Option (List Fault)) → Result Description CircuitFault
finished end (Err e) = Err (File e)
finished end (Ok p) = cond (nat_lt 0 (length p.1)) (Err (File (Overlong (end - length p.1)))) (graded p.0.0 p.0.1)

abbrev pub job_of : List ℕ → Result Description CircuitFault
job_of file = finished (length file) (parts_of (length file) file)
