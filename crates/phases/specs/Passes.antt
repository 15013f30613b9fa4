-- Passes of a phase over all circuits side by side.
use Rattle.std.specs.Prelude.{◌≡◌, ℕ, suc, ◌+◌, ◌<◌, Bool, true, false, List, ◌≢◌, slice_index_or}
use Rattle.ternary.specs.declared.Value.{Value}
use Rattle.circuit.specs.declared.circuit.Circuit.{Circuit}
use Rattle.circuit.specs.declared.site.FaultList.{FaultList}
use Rattle.switching.specs.declared.Phase.{Phase}
use Rattle.switching.specs.Lines.{Lines}
use Rattle.switching.specs.Chips.{Chip, chip}
use Rattle.switching.specs.Phases.{taken, target, gates_after}
use Rattle.switching.specs.Theorem.{First}
use Rattle.track.specs.declared.table.Line.{Line}
use Rattle.site_index.specs.Sites.{fault_of}
use Rattle.step.specs.Rows.{reading}
use Rattle.phases.specs.Reads.{read_by}

-- row j belongs to none of the first gates that are chosen
abbrev pub Elsewhere : ℕ → (ℕ → Bool) → ℕ → ℕ → Type 0
Elsewhere inputs chosen gates j = (k : ℕ) → k < gates → chosen k ≡ true → j ≢ inputs + k

-- circuit number n: with the job's fault n, or with none past the list
abbrev pub numbered : Circuit → FaultList → ℕ → Chip
numbered c list n = chip c.netlist (fault_of list n)

-- the number of the first pass that leaves things still, counted from 1; Still j is said of the pass after j passes
pub record Counts (Still : ℕ → Type 0) (passes : ℕ) : Type 0 where
  pub before : ℕ
  pub counted : passes ≡ before + 1
  pub first : First Still before

module _ {S : Type 0} (member : S → ℕ → Bool) (c : Circuit) (list : FaultList) (phase : Phase) (rows : List (Line S)) where
  -- the values of circuit n
  abbrev pub values_of : ℕ → Lines Value
  values_of n = reading member c.netlist.inputs rows n

  -- what a pass gives gate k of circuit n
  abbrev pub next_of : ℕ → ℕ → Value
  next_of n k = taken phase ((values_of n).gate k) (target (numbered c list n) (values_of n) k)

  -- its gates after j passes
  abbrev pub after_passes : ℕ → ℕ → ℕ → Value
  after_passes n j k = gates_after (numbered c list n) phase (values_of n).input (values_of n).gate j k

  -- the pass after j passes changes no gate in any circuit
  abbrev pub AllIdle : ℕ → Type 0
  AllIdle j = (n k : ℕ) → k < c.netlist.gates → after_passes n j k ≡ after_passes n (suc j) k

  -- gates that read no line that changed get what they have, and their drafts are what they hold
  pub record Quiet (changed : ℕ → Bool) : Type 0 where
    pub at_rest : (n k : ℕ) → k < c.netlist.gates → read_by changed c.netlist k ≡ false → next_of n k ≡ (values_of n).gate k
    pub drafted : (k : ℕ) (d : Line S) → k < c.netlist.gates → read_by changed c.netlist k ≡ false → (slice_index_or rows (c.netlist.inputs + k) d).draft ≡ (slice_index_or rows (c.netlist.inputs + k) d).held
