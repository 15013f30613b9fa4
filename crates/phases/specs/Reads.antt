-- Which lines changed in a pass, and which gates read one of them.
use Rattle.std.specs.Prelude.{ℕ, zero, suc, ◌+◌, Bool, false, ◌||◌, List, slice_index_or}
use Rattle.circuit.specs.declared.gate.Function.{Function}
use Rattle.circuit.specs.declared.gate.Function.TheVariants.{Complex, CElement}
use Rattle.circuit.specs.declared.gate.Gate.{Gate}
use Rattle.circuit.specs.declared.netlist.Netlist.{Netlist}
use Rattle.circuit.specs.Netlists.{gate_at, pin_at}

-- whether line i is among those that changed
abbrev pub changed_at : List Bool → ℕ → Bool
changed_at changed i = slice_index_or changed i false

-- a C-element reads its own line
abbrev pub own_read : Function → Bool → Bool
own_read (Complex s) own = false
own_read (CElement inverted) own = own

-- or one of a gate's first pins reads a line that changed
abbrev pub pins_read : (ℕ → Bool) → Gate → Bool → ℕ → Bool
pins_read changed g own zero = own
pins_read changed g own (suc j) = pins_read changed g own j || changed (pin_at g j)

-- whether gate k reads a line that changed
unfoldable pub read_by : (ℕ → Bool) → Netlist → ℕ → Bool
read_by changed n k = pins_read changed (gate_at n.gate k) (own_read (gate_at n.gate k).function (changed (n.inputs + k))) (gate_at n.gate k).pins
