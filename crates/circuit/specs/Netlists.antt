-- What makes a netlist a lawful circuit, by the places of its tables.
use Rattle.std.specs.Prelude.{◌≡◌, ℕ, zero, suc, ◌+◌, ◌-◌, ◌^◌, ◌<◌, ◌≤◌, Bool, true, false, cond, not, ◌&&◌, List, [], ◌∷◌, map, take, Some, None, Option, bit_and, nat_le, nat_lt, slice_index, slice_index_or}
use Rattle.circuit.specs.declared.gate.Sum.{Sum}
use Rattle.circuit.specs.declared.gate.Function.{Function}
use Rattle.circuit.specs.declared.gate.Function.TheVariants.{Complex, CElement}
use Rattle.circuit.specs.declared.gate.Gate.{Gate}
use Rattle.circuit.specs.declared.netlist.Netlist.{Netlist}
use Rattle.circuit.specs.declared.site.Site.{Site}
use Rattle.circuit.specs.declared.site.Site.TheVariants.{Stem, Pin}
use Rattle.circuit.specs.declared.site.Fault.{Fault}
use Rattle.circuit.specs.Gates.{two_valued, all_pins, driven}

-- what is read past the end of a table
abbrev pub no_sum : Sum
no_sum = record { products = 0; used = []; inverted = [] }

abbrev pub no_gate : Gate
no_gate = record { pins = 0; pin = []; function = Complex no_sum }

abbrev pub no_fault : Fault
no_fault = record { site = Stem 0; stuck = false }

abbrev pub gate_at : List Gate → ℕ → Gate
gate_at gates k = slice_index_or gates k no_gate

abbrev pub fault_at : List Fault → ℕ → Fault
fault_at faults n = slice_index_or faults n no_fault

-- the line that pin j reads
abbrev pub pin_at : Gate → ℕ → ℕ
pin_at g j = slice_index g.pin j

-- a complex gate has at least one pin, a C-element two
abbrev pub least_pins : Function → ℕ
least_pins (Complex s) = 1
least_pins (CElement inverted) = 2

-- the masks of a gate's products; a C-element's mask is that of its product of all pins
abbrev pub products : Function → ℕ
products (Complex s) = s.products
products (CElement inverted) = 1

abbrev pub used_at : ℕ → Function → ℕ → ℕ
used_at pins (Complex s) p = slice_index s.used p
used_at pins (CElement inverted) p = all_pins pins

abbrev pub inverted_at : Function → ℕ → ℕ
inverted_at (Complex s) p = slice_index s.inverted p
inverted_at (CElement inverted) p = inverted

-- the values of a gate's pins when the lines have these values
abbrev pub pins_of : Gate → List Bool → ℕ → Bool
pins_of g values = λ j. slice_index_or values (pin_at g j) false

-- the value that a gate drives then
abbrev pub driven_by : Gate → List Bool → Bool → Bool
driven_by g values own = driven two_valued g (pins_of g values) own

-- gate k is at rest: its line has the value of its function
abbrev pub Rests : ℕ → List Gate → List Bool → ℕ → Type 0
Rests inputs gates values k = slice_index_or values (inputs + k) false ≡ driven_by (gate_at gates k) values (slice_index_or values (inputs + k) false)

abbrev pub AtRest : Netlist → Type 0
AtRest n = (k : ℕ) → k < n.gates → Rests n.inputs n.gate n.start k

abbrev pub same : Bool → Bool → Bool
same true b = b
same false b = not b

-- the lowest line that is not at rest, from gate k on among the next left
abbrev pub restless_from : ℕ → List Gate → List Bool → ℕ → ℕ → Option ℕ
restless_from inputs gates values k zero = None
restless_from inputs gates values k (suc left) =
    cond (same (slice_index_or values (inputs + k) false) (driven_by (gate_at gates k) values (slice_index_or values (inputs + k) false)))
    (restless_from inputs gates values (k + 1) left)
    (Some (inputs + k))

abbrev pub restless : Netlist → Option ℕ
restless n = restless_from n.inputs n.gate n.start 0 n.gates

-- a gate of a circuit with this many lines: its pins name lines, and its masks stay within its pins
pub record LawfulGate (lines : ℕ) (g : Gate) : Type 0 where
  pub pins_enough : least_pins g.function ≤ g.pins
  pub pins_few : g.pins ≤ 8
  pub named : (j : ℕ) → j < g.pins → pin_at g j < lines
  pub products_some : 0 < products g.function
  pub products_few : products g.function ≤ 8
  pub used_some : (p : ℕ) → p < products g.function → 0 < used_at g.pins g.function p
  pub used_within : (p : ℕ) → p < products g.function → used_at g.pins g.function p < 2 ^ g.pins
  pub inverted_used : (p : ℕ) → p < products g.function → bit_and (inverted_at g.function p) (used_at g.pins g.function p) ≡ inverted_at g.function p

-- a circuit but for its start: counts in range, lawful gates, outputs that are gate lines and rise
pub record Lawful (n : Netlist) : Type 0 where
  pub inputs_some : 0 < n.inputs
  pub inputs_few : n.inputs ≤ 8
  pub gates_some : 0 < n.gates
  pub gates_few : n.gates ≤ 40
  pub outputs_some : 0 < n.outputs
  pub outputs_few : n.outputs ≤ 8
  pub gates_lawful : (k : ℕ) → k < n.gates → LawfulGate (n.inputs + n.gates) (gate_at n.gate k)
  pub gate_lines : (i : ℕ) → i < n.outputs → (n.inputs ≤ slice_index n.output i) × (slice_index n.output i < n.inputs + n.gates)
  pub rising : (i : ℕ) → i + 1 < n.outputs → slice_index n.output i < slice_index n.output (i + 1)

-- a netlist with each table cut to the places that it needs
abbrev pub trimmed_function : Function → Function
trimmed_function (Complex s) = Complex (record { products = s.products; used = take s.products s.used; inverted = take s.products s.inverted })
trimmed_function (CElement inverted) = CElement inverted

abbrev pub trimmed_gate : Gate → Gate
trimmed_gate g = record { pins = g.pins; pin = take g.pins g.pin; function = trimmed_function g.function }

abbrev pub trimmed : Netlist → Netlist
trimmed n = record {
  inputs = n.inputs;
  gates = n.gates;
  gate = map trimmed_gate (take n.gates n.gate);
  outputs = n.outputs;
  output = take n.outputs n.output;
  start = take (n.inputs + n.gates) n.start;
}

-- one input, handed on by one gate
abbrev pub buffer : Netlist
buffer = record {
  inputs = 1;
  gates = 1;
  gate = record { pins = 1; pin = 0 ∷ []; function = Complex (record { products = 1; used = 1 ∷ []; inverted = 0 ∷ [] }) } ∷ [];
  outputs = 1;
  output = 1 ∷ [];
  start = false ∷ false ∷ [];
}

-- a site that the netlist has: one of its lines, or one pin of the gate on a gate line
abbrev pub sited : Netlist → Site → Bool
sited n (Stem line) = nat_lt line (n.inputs + n.gates)
sited n (Pin line pin) = nat_le n.inputs line && (nat_lt line (n.inputs + n.gates) && nat_lt pin (gate_at n.gate (line - n.inputs)).pins)
