-- What a chip is put through: the runs over it, and the values that the procedure gives after it.
use Rattle.std.specs.Prelude.{ℕ, ◌+◌, Bool, false, List, [], ◌∷◌, Option, slice_index_or}
use Rattle.ternary.specs.declared.Value.{Value}
use Rattle.ternary.specs.Values.{of}
use Rattle.circuit.specs.declared.netlist.Netlist.{Netlist}
use Rattle.circuit.specs.declared.site.Fault.{Fault}
use Rattle.circuit.specs.Chips.{seen}
use Rattle.switching.specs.Lines.{Lines, line}
use Rattle.switching.specs.Chips.{Chip, chip}
use Rattle.switching.specs.Phases.{settled}
use Rattle.switching.specs.Switching.{Hold}

-- what happened, the latest first: a vector was held, or the run began anew
pub data Event : Type 0 where
  vector : (ℕ → Bool) → Event
  restart : Event

module _ (c : Chip) (start : Lines Bool) where
  -- all lines at start values, a stuck line at its own
  abbrev pub beginning : Lines Bool
  beginning = record { input = λ i. seen (λ b. b) (c.stuck.input i) (start.input i); gate = λ k. seen (λ b. b) (c.stuck.gate k) (start.gate k) }

  -- t ends a run: the start inputs are held first, then each vector; a restart forgets what came before it
  pub data Run : List Event → Lines Bool → Type 0 where
    begun : {t : Lines Bool} → Hold c start.input beginning t → Run [] t
    held : {v : ℕ → Bool} {h : List Event} {s t : Lines Bool} → Run h s → Hold c v s t → Run (vector v ∷ h) t
    anew : {h : List Event} {t : Lines Bool} → Hold c start.input beginning t → Run (restart ∷ h) t

  -- the values that the procedure gives
  abbrev pub at_start : Lines Value
  at_start = settled c (record { input = λ i. of (beginning.input i); gate = λ k. of (beginning.gate k) }) start.input

  abbrev pub values_after : List Event → Lines Value
  values_after [] = at_start
  values_after (vector v ∷ h) = settled c (values_after h) v
  values_after (restart ∷ h) = at_start

-- the start values of a netlist
abbrev pub start_lines : Netlist → Lines Bool
start_lines n = record { input = λ i. slice_index_or n.start i false; gate = λ k. slice_index_or n.start (n.inputs + k) false }

module _ (n : Netlist) (fault : Option Fault) (h : List Event) where
  -- s ends a run of the chip over the history
  abbrev pub Ends : Lines Bool → Type 0
  Ends s = Run (chip n fault) (start_lines n) h s

  -- the chip's values after the history
  abbrev pub after : Lines Value
  after = values_after (chip n fault) (start_lines n) h

  -- that of line i
  abbrev pub value : ℕ → Value
  value i = line n after i
