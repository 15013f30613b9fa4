-- Small circuits, and what the procedure gives on them; and a hold that is one turn too short.
use Rattle.std.specs.Prelude.{◌≡◌, ℕ, Bool, true, false, not, List, [], ◌∷◌, Some, None, Option, slice_index_or}
use Rattle.ternary.specs.declared.Value.{Value}
use Rattle.ternary.specs.declared.Value.TheVariants.{Zero, One, Two}
use Rattle.ternary.specs.Values.{of}
use Rattle.circuit.specs.declared.gate.Function.TheVariants.{Complex, CElement}
use Rattle.circuit.specs.declared.netlist.Netlist.{Netlist}
use Rattle.circuit.specs.declared.site.Site.TheVariants.{Stem, Pin}
use Rattle.circuit.specs.declared.site.Fault.{Fault}
use Rattle.circuit.specs.Netlists.{buffer}
use Rattle.switching.specs.Lines.{Lines, line}
use Rattle.switching.specs.Chips.{chip}
use Rattle.switching.specs.Switching.{Turns}
use Rattle.switching.specs.Histories.{Event, vector, restart, Ends, value}

-- two inputs and a C-element on them
abbrev pub c_element : Netlist
c_element = record {
  inputs = 2;
  gates = 1;
  gate = record { pins = 2; pin = 0 ∷ 1 ∷ []; function = CElement 0 } ∷ [];
  outputs = 1;
  output = 2 ∷ [];
  start = false ∷ false ∷ false ∷ [];
}

-- one input a, and a gate that is not a, or not itself: while a is 1 it inverts itself without end
abbrev pub inverter_loop : Netlist
inverter_loop = record {
  inputs = 1;
  gates = 1;
  gate = record { pins = 2; pin = 0 ∷ 1 ∷ []; function = Complex (record { products = 2; used = 1 ∷ 2 ∷ []; inverted = 1 ∷ 2 ∷ [] }) } ∷ [];
  outputs = 1;
  output = 1 ∷ [];
  start = false ∷ true ∷ [];
}

-- one input a; line 1 is not a; line 2 is a and line 1, or itself: when a rises, line 2 goes to 1 if it is quicker than line 1
abbrev pub racing_gate : Netlist
racing_gate = record {
  inputs = 1;
  gates = 2;
  gate = record { pins = 1; pin = 0 ∷ []; function = Complex (record { products = 1; used = 1 ∷ []; inverted = 1 ∷ [] }) }
      ∷ record { pins = 3; pin = 0 ∷ 1 ∷ 2 ∷ []; function = Complex (record { products = 2; used = 3 ∷ 4 ∷ []; inverted = 0 ∷ 0 ∷ [] }) } ∷ [];
  outputs = 1;
  output = 2 ∷ [];
  start = false ∷ true ∷ false ∷ [];
}

-- a vector by its bits, input 0 first
abbrev pub apply : List Bool → Event
apply bits = vector (λ i. slice_index_or bits i false)

abbrev pub stem : ℕ → Bool → Option Fault
stem line stuck = Some (record { site = Stem line; stuck = stuck })

abbrev pub pin : ℕ → ℕ → Bool → Option Fault
pin line j stuck = Some (record { site = Pin line j; stuck = stuck })

-- a chip, what it is put through (the latest first), a line, and the value that the line has then
pub record Example : Type 0 where
  pub netlist : Netlist
  pub fault : Option Fault
  pub history : List Event
  pub line : ℕ
  pub gives : Value

abbrev shown : Netlist → Option Fault → List Event → ℕ → Value → Example
shown n f h i v = record { netlist = n; fault = f; history = h; line = i; gives = v }

abbrev pub examples : List Example
examples =
    shown c_element None (apply (true ∷ false ∷ []) ∷ []) 2 Zero
    ∷ shown c_element None (apply (true ∷ true ∷ []) ∷ apply (true ∷ false ∷ []) ∷ []) 2 One
    ∷ shown c_element None (apply (false ∷ true ∷ []) ∷ apply (true ∷ true ∷ []) ∷ []) 2 One
    ∷ shown c_element None (restart ∷ apply (true ∷ true ∷ []) ∷ []) 2 Zero
    ∷ shown c_element (pin 2 1 true) (apply (true ∷ false ∷ []) ∷ []) 2 One
    ∷ shown c_element (pin 2 1 true) (apply (true ∷ false ∷ []) ∷ []) 1 Zero
    ∷ shown c_element (pin 2 0 true) (apply (true ∷ false ∷ []) ∷ []) 2 Zero
    ∷ shown c_element (stem 1 true) (apply (true ∷ false ∷ []) ∷ []) 2 One
    ∷ shown c_element (stem 1 true) (apply (true ∷ false ∷ []) ∷ []) 1 One
    ∷ shown inverter_loop None (apply (false ∷ []) ∷ []) 1 One
    ∷ shown inverter_loop None (apply (true ∷ []) ∷ []) 1 Two
    ∷ shown inverter_loop (stem 0 true) (apply (false ∷ []) ∷ []) 1 Two
    ∷ shown inverter_loop (stem 1 false) (apply (false ∷ []) ∷ []) 1 Zero
    ∷ shown inverter_loop (pin 1 1 false) (apply (true ∷ []) ∷ []) 1 One
    ∷ shown racing_gate None (apply (true ∷ []) ∷ []) 1 Zero
    ∷ shown racing_gate None (apply (true ∷ []) ∷ []) 2 Two
    ∷ shown racing_gate (pin 2 0 false) (apply (true ∷ []) ∷ []) 2 Zero
    ∷ shown racing_gate (pin 2 1 true) (apply (true ∷ []) ∷ []) 2 One
    ∷ []

abbrev pub Gives : List Example → Type 0
Gives [] = Unit {0}
Gives (e ∷ es) = (value e.netlist e.fault e.history e.line ≡ e.gives) × Gives es

abbrev pub ExamplesHold : Type 0
ExamplesHold = Gives examples

-- after a vector held for no more turns than there are gates, a line can still have its old value, which is not its settled one
pub record TooShort (n : Netlist) (new : ℕ → Bool) (i : ℕ) : Type 0 where
  pub before : Lines Bool
  pub run : Ends n None [] before
  pub last : Lines Bool
  pub turns : Turns (chip n None) new n.gates before last
  pub still_old : line n last i ≡ line n before i
  pub settles_elsewhere : value n None (vector new ∷ []) i ≡ of (not (line n last i))

-- so it is with one input handed on by one gate: the gate had its turn before the input moved
abbrev pub FewerTurnsFail : Type 0
FewerTurnsFail = TooShort buffer (λ i. true) 1
