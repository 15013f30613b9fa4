-- A chip: a circuit with no fault, or with one. What a fault holds, and what a gate then drives.
use Rattle.std.specs.Prelude.{ℕ, ◌+◌, Bool, false, cond, ◌&&◌, List, Some, None, Option, ◌==◌, slice_index_or}
use Rattle.ternary.specs.declared.Value.{Value}
use Rattle.ternary.specs.declared.Value.TheVariants.{Zero}
use Rattle.ternary.specs.Logics.{Logic}
use Rattle.circuit.specs.declared.netlist.Netlist.{Netlist}
use Rattle.circuit.specs.declared.site.Site.{Site}
use Rattle.circuit.specs.declared.site.Site.TheVariants.{Stem, Pin}
use Rattle.circuit.specs.declared.site.Fault.{Fault}
use Rattle.circuit.specs.Gates.{driven}
use Rattle.circuit.specs.Netlists.{gate_at, pin_at}

abbrev pub same_site : Site → Site → Bool
same_site (Stem a) (Stem b) = a == b
same_site (Stem a) (Pin b j) = false
same_site (Pin a i) (Stem b) = false
same_site (Pin a i) (Pin b j) = a == b && i == j

-- the value at which a chip's fault holds a site, if it sits there
abbrev pub stuck_at : Option Fault → Site → Option Bool
stuck_at None s = None
stuck_at (Some f) s = cond (same_site f.site s) (Some f.stuck) None

-- what is seen at a place that would have the value v
abbrev pub seen : {A : Type 0} → (Bool → A) → Option Bool → A → A
seen const None v = v
seen const (Some b) v = const b

-- the value at place i of a table
abbrev pub value_at : List Value → ℕ → Value
value_at values i = slice_index_or values i Zero

-- with these values on the lines, by their numbers
module _ {A : Type 0} (L : Logic A) (n : Netlist) (fault : Option Fault) (line : ℕ → A) where
  -- what pin j of gate k sees: a fault on the pin acts before the pin is inverted
  abbrev pub pin_sees : ℕ → ℕ → A
  pin_sees k j = seen L.const (stuck_at fault (Pin (n.inputs + k) j)) (line (pin_at (gate_at n.gate k) j))

  -- the value of gate k's function; a C-element's reading of its own line is no pin
  abbrev pub driven_in : A → ℕ → A
  driven_in own k = driven L (gate_at n.gate k) (pin_sees k) own
