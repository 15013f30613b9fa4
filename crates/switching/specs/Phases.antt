-- Eichelberger's procedure for one chip, from any values on its lines: spreading, then settling.
use Rattle.std.specs.Prelude.{◌≡◌, ℕ, zero, suc, Bool}
use Rattle.ternary.specs.declared.Value.{Value}
use Rattle.ternary.specs.Values.{of, ◌⊑◌, join}
use Rattle.circuit.specs.Chips.{seen}
use Rattle.switching.specs.declared.Phase.{Phase}
use Rattle.switching.specs.declared.Phase.TheVariants.{Spread, Settle}
use Rattle.switching.specs.Lines.{Each, Lines}
use Rattle.switching.specs.Chips.{Chip}

-- In a pass of spreading a gate keeps its value if its function gives the same, and else goes to 2. In a pass of settling it takes its function's value.
abbrev pub taken : Phase → Value → Value → Value
taken Spread old new = join old new
taken Settle old new = new

module _ (c : Chip) where
  -- what gate k's line is to be: its function's value, or the value at which it is stuck
  abbrev pub target : Lines Value → ℕ → Value
  target A k = seen of (c.stuck.gate k) (c.next A k)

  -- an input under a vector: its bit, or the value at which it is stuck
  abbrev pub applied : (ℕ → Bool) → ℕ → Value
  applied new i = seen of (c.stuck.input i) (of (new i))

  -- while spreading, an input that changes stands at 2
  abbrev pub changing : Lines Value → (ℕ → Bool) → ℕ → Value
  changing old new i = join (old.input i) (applied new i)

  -- the gates after j passes of a phase with the inputs at x; every pass reads only the values before it
  abbrev pub gates_after : Phase → (ℕ → Value) → (ℕ → Value) → ℕ → ℕ → Value
  gates_after phase x g zero k = g k
  gates_after phase x g (suc j) k = taken phase (gates_after phase x g j k) (target (record { input = x; gate = gates_after phase x g j }) k)

  -- where a phase may begin: settling where what each gate's line is to be lies within its value
  abbrev pub Ready : Phase → Lines Value → Type 0
  Ready Spread A = Unit {0}
  Ready Settle A = Each c.gates (λ k. target A k ⊑ A.gate k)

  -- the lines after j passes of spreading
  abbrev pub spread : Lines Value → (ℕ → Bool) → ℕ → Lines Value
  spread old new j = record { input = changing old new; gate = gates_after Spread (changing old new) old.gate j }

  -- where spreading rests
  abbrev pub spread_out : Lines Value → (ℕ → Bool) → Lines Value
  spread_out old new = spread old new c.gates

  -- the lines after j passes of settling, which begins where spreading rests
  abbrev pub settle : Lines Value → (ℕ → Bool) → ℕ → Lines Value
  settle old new j = record { input = applied new; gate = gates_after Settle (applied new) (spread_out old new).gate j }

  -- where settling rests
  abbrev pub settled : Lines Value → (ℕ → Bool) → Lines Value
  settled old new = settle old new c.gates

  abbrev pub passes : Phase → Lines Value → (ℕ → Bool) → ℕ → Lines Value
  passes Spread = spread
  passes Settle = settle

  -- the pass after j passes changes no gate
  abbrev pub Idle : Phase → Lines Value → (ℕ → Bool) → ℕ → Type 0
  Idle phase old new j = Each c.gates (λ k. (passes phase old new j).gate k ≡ (passes phase old new (suc j)).gate k)
