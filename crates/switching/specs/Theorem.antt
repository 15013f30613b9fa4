-- What the procedure says of every order of switching.
use Rattle.std.specs.Prelude.{◌≡◌, ℕ, suc, ◌+◌, ◌<◌, ◌≤◌, Bool, List, None, Option, ◌≢◌}
use Rattle.ternary.specs.declared.Value.{Value}
use Rattle.ternary.specs.Values.{of}
use Rattle.ternary.specs.Logics.{three_valued, tracks, by_tracks}
use Rattle.circuit.specs.declared.netlist.Netlist.{Netlist}
use Rattle.circuit.specs.declared.circuit.Circuit.{Circuit}
use Rattle.circuit.specs.declared.site.Fault.{Fault}
use Rattle.switching.specs.declared.Phase.{Phase}
use Rattle.switching.specs.Lines.{Each, Lines, line}
use Rattle.switching.specs.Chips.{gate_value, chip, Covers, Extends}
use Rattle.switching.specs.Phases.{spread_out, settle, passes, Idle}
use Rattle.switching.specs.Switching.{Steps, Turn, Turns}
use Rattle.switching.specs.Histories.{Event, Ends, after, value}

-- the first number with a property
pub record First (P : ℕ → Type 0) (j : ℕ) : Type 0 where
  pub has : P j
  pub least : (i : ℕ) → i < j → P i → ⊥

-- j is the largest of the first m numbers, or 0 if there are none
pub record Most (m : ℕ) (number : ℕ → ℕ) (j : ℕ) : Type 0 where
  pub reached : Each m (λ i. number i ≤ j)
  pub least : (b : ℕ) → Each m (λ i. number i ≤ b) → j ≤ b

-- each phase comes to rest, from any values
pub record ComesToRest (n : Netlist) : Type 0 where
  -- within as many passes as there are gates; the next one changes nothing
  pub rests : (f : Option Fault) (phase : Phase) (old : Lines Value) (new : ℕ → Bool) → Idle (chip n f) phase old new n.gates
  -- once a pass changes nothing, no later one does
  pub lasts : (f : Option Fault) (phase : Phase) (old : Lines Value) (new : ℕ → Bool) (j m : ℕ) → Idle (chip n f) phase old new j → j ≤ m
      → Idle (chip n f) phase old new m × Each n.gates (λ k. (passes (chip n f) phase old new j).gate k ≡ (passes (chip n f) phase old new m).gate k)
  -- so it rests at the values after as many passes as there are gates, however many are made
  pub ends : (f : Option Fault) (phase : Phase) (old : Lines Value) (new : ℕ → Bool) (j : ℕ) → Idle (chip n f) phase old new j
      → Each n.gates (λ k. (passes (chip n f) phase old new j).gate k ≡ (passes (chip n f) phase old new n.gates).gate k)
  -- chips that run side by side until no gate changes in any of them make as many passes as the one that needs most
  pub side_by_side : (phase : Phase) (new : ℕ → Bool) (m : ℕ) (f : ℕ → Option Fault) (old : ℕ → Lines Value) (own : ℕ → ℕ) (all : ℕ)
      → Each m (λ i. First (Idle (chip n (f i)) phase (old i) new) (own i))
      → First (λ j. Each m (λ i. Idle (chip n (f i)) phase (old i) new j)) all
      → Most m own all

-- runs, and the values of the procedure beside them
pub record CoversEveryRun (n : Netlist) : Type 0 where
  -- there is a run over every history
  pub runs : (f : Option Fault) (h : List Event) → (s : Lines Bool) × Ends n f h s
  -- while a vector is held, every state lies within the values of spreading
  pub during : (f : Option Fault) (h : List Event) (v : ℕ → Bool) (s t : Lines Bool) → Ends n f h s → Steps (chip n f) v s t
      → Covers (chip n f) (spread_out (chip n f) (after n f h) v) t
  -- after j + 1 turns it lies within the values of j passes of settling
  pub turned : (f : Option Fault) (h : List Event) (v : ℕ → Bool) (j : ℕ) (s t : Lines Bool) → Ends n f h s → Turns (chip n f) v (suc j) s t
      → Covers (chip n f) (settle (chip n f) (after n f h) v j) t
  -- every run ends within the settled values
  pub covered : (f : Option Fault) (h : List Event) (s : Lines Bool) → Ends n f h s → Covers (chip n f) (after n f h) s
  -- steps after a turn belong to it, so a hold may go on past its last turn
  pub goes_on : (f : Option Fault) (v : ℕ → Bool) (s t u : Lines Bool) → Turn (chip n f) v s t → Steps (chip n f) v t u → Turn (chip n f) v s u

-- the good chip beside a faulty one, at any line
module _ (n : Netlist) (f : Option Fault) (h : List Event) (i : ℕ) where
  -- settled and different: every run of the one differs from every run of the other
  abbrev pub Differs : Type 0
  Differs = (a b : Bool) → value n None h i ≡ of a → value n f h i ≡ of b → (a ≢ b)
      → (s t : Lines Bool) → Ends n None h s → Ends n f h t → line n s i ≢ line n t i

  -- settled and equal: they agree
  abbrev pub Agrees : Type 0
  Agrees = (a : Bool) → value n None h i ≡ of a → value n f h i ≡ of a
      → (s t : Lines Bool) → Ends n None h s → Ends n f h t → line n s i ≡ line n t i

pub record TernarySimulation (n : Netlist) : Type 0 where
  pub extends : (f : Option Fault) → Extends (chip n f)
  -- a gate worked out by tracks gives the tracks of its value
  pub tracked : (f : Option Fault) (A : Lines Value)
      → Each n.gates (λ k. gate_value by_tracks n f (record { input = λ i. tracks (A.input i); gate = λ j. tracks (A.gate j) }) k ≡ tracks (gate_value three_valued n f A k))
  pub comes_to_rest : ComesToRest n
  pub covers_every_run : CoversEveryRun n
  pub differs : (f : Option Fault) (h : List Event) → Each (n.inputs + n.gates) (Differs n f h)
  pub agrees : (f : Option Fault) (h : List Event) → Each (n.inputs + n.gates) (Agrees n f h)

-- for every circuit that can be made, with no further condition
abbrev pub EveryOrderIsCovered : Type 0
EveryOrderIsCovered = (c : Circuit) → TernarySimulation c.netlist
