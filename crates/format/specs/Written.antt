-- The job file as a format: which bytes stand for a job.
use Rattle.std.specs.Prelude.{◌≡◌, ℕ, ◌+◌, ◌*◌, ◌/◌, ◌%◌, ◌<◌, Bool, true, false, cond, List, [], ◌∷◌, ◌++◌, length, replicate, slice_index, slice_index_or}
use Rattle.std.specs.List.{flat_map}
use Rattle.circuit.specs.declared.gate.Function.{Function}
use Rattle.circuit.specs.declared.gate.Function.TheVariants.{Complex, CElement}
use Rattle.circuit.specs.declared.gate.Gate.{Gate}
use Rattle.circuit.specs.declared.netlist.Netlist.{Netlist}
use Rattle.circuit.specs.declared.site.Site.{Site}
use Rattle.circuit.specs.declared.site.Site.TheVariants.{Stem, Pin}
use Rattle.circuit.specs.declared.site.Fault.{Fault}
use Rattle.circuit.specs.Gates.{bit}
use Rattle.circuit.specs.Netlists.{products, inverted_at}
use Rattle.format.specs.Descriptions.{Description, made}

abbrev pub number : Bool → ℕ
number false = 0
number true = 1

-- a map of two flags: bit 0, the lowest, and bit 1
abbrev pub map_of : Bool → Bool → ℕ
map_of low high = number low + 2 * number high

-- a part that stands in the file only where its flag is set
abbrev pub given : Bool → List ℕ → List ℕ
given flag bytes = cond flag bytes []

abbrev pub is_complex : Function → Bool
is_complex (Complex s) = true
is_complex (CElement inverted) = false

abbrev pub bytes_of_product : Bool → Function → List ℕ
bytes_of_product masks (Complex s) = s.products ∷ (s.used ++ given masks s.inverted)
bytes_of_product masks (CElement inverted) = given masks (inverted ∷ [])

-- a gate's record: map (bit 0 products follow, bit 1 inverted masks follow), pin count, a line for each pin, products
abbrev pub bytes_of_gate : Bool → Gate → List ℕ
bytes_of_gate masks g = map_of (is_complex g.function) masks ∷ g.pins ∷ (g.pin ++ bytes_of_product masks g.function)

-- inverted masks may be left out where no pin is inverted
pub record GateWritten (g : Gate) (bytes : List ℕ) : Type 0 where
  pub masks : Bool
  pub plain : masks ≡ false → (p : ℕ) → p < products g.function → inverted_at g.function p ≡ 0
  pub is : bytes ≡ bytes_of_gate masks g

-- gates, one record after the other
pub data GatesWritten : List Gate → List ℕ → Type 0 where
  none : GatesWritten [] []
  more : {g : Gate} {gates : List Gate} {record_bytes rest : List ℕ} → GateWritten g record_bytes → GatesWritten gates rest → GatesWritten (g ∷ gates) (record_bytes ++ rest)

-- start values: line n in byte n div 8, bit n mod 8, spare bits 0
pub record StartWritten (lines : ℕ) (start : List Bool) (bytes : List ℕ) : Type 0 where
  pub enough : length bytes ≡ (lines + 7) / 8
  pub small : (i : ℕ) → i < length bytes → slice_index bytes i < 256
  pub each : (n : ℕ) → n < 8 * length bytes → bit (slice_index bytes (n / 8)) (n % 8) ≡ slice_index_or start n false

-- they may be left out where all are 0
abbrev pub StartGiven : Bool → ℕ → List Bool → List ℕ → Type 0
StartGiven true lines start bytes = StartWritten lines start bytes
StartGiven false lines start bytes = (start ≡ replicate lines false) × (bytes ≡ [])

-- a fault: map (bit 0 stuck value, bit 1 pin byte follows), line, and the pin
abbrev pub bytes_of_fault : Site → Bool → List ℕ
bytes_of_fault (Stem line) stuck = map_of stuck false ∷ line ∷ []
bytes_of_fault (Pin line pin) stuck = map_of stuck true ∷ line ∷ pin ∷ []

-- faults are counted, and may be left out where they are the made list
abbrev pub FaultsGiven : Bool → Netlist → List Fault → List ℕ → Type 0
FaultsGiven true n faults bytes = bytes ≡ length faults ∷ flat_map (λ f. bytes_of_fault f.site f.stuck) faults
FaultsGiven false n faults bytes = (faults ≡ made n) × (bytes ≡ [])

-- the file of a job: map (bit 0 start values follow, bit 1 faults follow), counts, outputs, start values, gates, faults
pub record Written (d : Description) (file : List ℕ) : Type 0 where
  pub with_start : Bool
  pub with_faults : Bool
  pub start_bytes : List ℕ
  pub gate_bytes : List ℕ
  pub fault_bytes : List ℕ
  pub start : StartGiven with_start (d.netlist.inputs + d.netlist.gates) d.netlist.start start_bytes
  pub gates : GatesWritten d.netlist.gate gate_bytes
  pub faults : FaultsGiven with_faults d.netlist d.faults fault_bytes
  pub is : file ≡ map_of with_start with_faults ∷ d.netlist.inputs ∷ d.netlist.gates ∷ d.netlist.outputs ∷ (d.netlist.output ++ (start_bytes ++ (gate_bytes ++ fault_bytes)))
