-- The lines of a circuit: its inputs, and the lines that its gates drive.
use Rattle.std.specs.Prelude.{ℕ, ◌-◌, ◌<◌, cond, nat_lt}
use Rattle.circuit.specs.declared.netlist.Netlist.{Netlist}

-- what holds of each number below n
abbrev pub Each : ℕ → (ℕ → Type 0) → Type 0
Each n P = (i : ℕ) → i < n → P i

-- one thing for each input, and one for each gate's line
pub record Lines (A : Type 0) : Type 0 where
  pub input : ℕ → A
  pub gate : ℕ → A

-- by the number of the line: the inputs come first
abbrev pub line : {A : Type 0} → Netlist → Lines A → ℕ → A
line n s i = cond (nat_lt i n.inputs) (s.input i) (s.gate (i - n.inputs))
