-- A chip, as the functions of its gates and the lines that are stuck.
use Rattle.std.specs.Prelude.{◌≡◌, ℕ, ◌+◌, Bool, Option}
use Rattle.ternary.specs.declared.Value.{Value}
use Rattle.ternary.specs.Values.{of, ◌⊑◌}
use Rattle.ternary.specs.Logics.{Logic, two_valued, three_valued}
use Rattle.circuit.specs.declared.netlist.Netlist.{Netlist}
use Rattle.circuit.specs.declared.site.Site.TheVariants.{Stem}
use Rattle.circuit.specs.declared.site.Fault.{Fault}
use Rattle.circuit.specs.Chips.{stuck_at, driven_in}
use Rattle.switching.specs.Lines.{Each, Lines, line}

pub record Chip : Type 0 where
  pub inputs : ℕ
  pub gates : ℕ
  -- the value at which a line is stuck, if it is
  pub stuck : Lines (Option Bool)
  -- what the function of a gate gives, on truth values and on 0, 1 and 2
  pub bit : Lines Bool → ℕ → Bool
  pub next : Lines Value → ℕ → Value

-- the function of gate k, over any logic
abbrev pub gate_value : {A : Type 0} → Logic A → Netlist → Option Fault → Lines A → ℕ → A
gate_value L n fault s k = driven_in L n fault (line n s) (s.gate k) k

-- the circuit with no fault, or with one
abbrev pub chip : Netlist → Option Fault → Chip
chip n fault = record {
  inputs = n.inputs;
  gates = n.gates;
  stuck = record { input = λ i. stuck_at fault (Stem i); gate = λ k. stuck_at fault (Stem (n.inputs + k)) };
  bit = gate_value two_valued n fault;
  next = gate_value three_valued n fault;
}

-- each line of A lies within that of B
pub record Within (c : Chip) (A B : Lines Value) : Type 0 where
  pub inputs : Each c.inputs (λ i. A.input i ⊑ B.input i)
  pub gates : Each c.gates (λ k. A.gate k ⊑ B.gate k)

-- A covers the state s: a line that is settled in A has that value in s
pub record Covers (c : Chip) (A : Lines Value) (s : Lines Bool) : Type 0 where
  pub inputs : Each c.inputs (λ i. of (s.input i) ⊑ A.input i)
  pub gates : Each c.gates (λ k. of (s.gate k) ⊑ A.gate k)

-- the functions on values extend those on truth values: what is known of a gate's lines leads to nothing wrong about the gate
pub record Extends (c : Chip) : Type 0 where
  pub monotone : (A B : Lines Value) → Within c A B → Each c.gates (λ k. c.next A k ⊑ c.next B k)
  pub sound : (A : Lines Value) (s : Lines Bool) → Covers c A s → Each c.gates (λ k. of (c.bit s k) ⊑ c.next A k)
  pub exact : (s : Lines Bool) → Each c.gates (λ k. of (c.bit s k) ≡ c.next (record { input = λ i. of (s.input i); gate = λ j. of (s.gate j) }) k)
