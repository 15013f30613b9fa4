-- A gate worked out by tracks from the rows gives the tracks of its value.
use Rattle.std.proofs.Common.{◌≡◌, ℕ, ◌+◌, ◌-◌, ◌≤◌, Bool, true, false, cond, ltb, List, sym, refl, ap, ◌∙◌, arith}
use Rattle.std.proofs.lemmas.Bool.{ltb-false}
use Rattle.ternary.specs.declared.Value.{Value}
use Rattle.ternary.specs.Logics.{Tracks as Pair, tracks, by_tracks}
use Rattle.ternary.proofs.Keeps.{tracks_kept}
use Rattle.circuit.specs.declared.netlist.Netlist.{Netlist}
use Rattle.circuit.specs.declared.site.Site.TheVariants.{Stem}
use Rattle.circuit.specs.declared.site.FaultList.{FaultList}
use Rattle.circuit.specs.declared.gate.Sum.{Sum}
use Rattle.circuit.specs.declared.gate.Gate.{Gate}
use Rattle.circuit.specs.declared.gate.Function.TheVariants.{Complex}
use Rattle.ternary.specs.Logics.{Logic}
use Rattle.circuit.specs.Gates.{driven, function_of}
use Rattle.circuit.specs.Netlists.{gate_at, pin_at}
use Rattle.circuit.specs.Chips.{stuck_at, seen}
use Rattle.circuit.proofs.Kept.{seen_keeps, driven_in_keeps}
use Rattle.switching.specs.Lines.{Lines, line}
use Rattle.switching.specs.Chips.{chip}
use Rattle.switching.specs.Phases.{target}
use Rattle.track.specs.declared.table.Line.{Line}
use Rattle.track.specs.Answers.{value}
use Rattle.site_index.specs.Sites.{fault_of}
use Rattle.step.specs.Rows.{held_at, reading}
use Rattle.step.specs.Pins.{pin_reads}
use Rattle.step.proofs.Looks.{held_tracks}

-- a complex gate does not read its own line
pub shape_alone : {A : Type 0} (L : Logic A) (g : Gate) (s : Sum) (pin : ℕ → A) (a b : A) → g.function ≡ Complex s → driven L g pin a ≡ driven L g pin b
unfolding driven
shape_alone L g s pin a b e = ap (function_of L pin a g.pins) e ∙ sym (ap (function_of L pin b g.pins) e)

module _ {S : Type 0} (m : S → ℕ → Bool) (lines : List (Line S)) (n : ℕ) (netlist : Netlist) where
  abbrev A : Lines Value
  A = reading m netlist.inputs lines n

  -- the values that are read, by line number
  pub on_line : (i : ℕ) → line netlist A i ≡ value (held_at m lines n i)
  on_line i = elim (ltb i netlist.inputs) as (λ b. ltb i netlist.inputs ≡ b → cond b (A.input i) (A.gate (i - netlist.inputs)) ≡ value (held_at m lines n i)) [
    | true ↦ (λ e. refl)
    | false ↦ (λ e. let le : netlist.inputs ≤ i = ltb-false i netlist.inputs e in ap (λ (j : ℕ). value (held_at m lines n j)) (omega arith))
  ] refl

  driven_tracks : (list : FaultList) (k : ℕ)
      → driven by_tracks (gate_at netlist.gate k) (pin_reads m netlist list lines n k) (held_at m lines n (netlist.inputs + k)) ≡ tracks ((chip netlist (fault_of list n)).next A k)
  unfolding pin_reads
  driven_tracks list k = driven_in_keeps tracks_kept netlist (fault_of list n) (held_at m lines n) (line netlist A) k
      (λ j l. held_tracks m lines n (pin_at (gate_at netlist.gate k) j) ∙ ap tracks (sym (on_line (pin_at (gate_at netlist.gate k) j))))
      _ _ (held_tracks m lines n (netlist.inputs + k))

  -- and so does what its line is to be, once it is stuck where its fault says
  pub target_tracks : (list : FaultList) (k : ℕ) {was now : Pair}
      → was ≡ driven by_tracks (gate_at netlist.gate k) (pin_reads m netlist list lines n k) (held_at m lines n (netlist.inputs + k))
      → now ≡ seen by_tracks.const (stuck_at (fault_of list n) (Stem (netlist.inputs + k))) was
      → now ≡ tracks (target (chip netlist (fault_of list n)) A k)
  target_tracks list k before after = after ∙ seen_keeps tracks_kept (stuck_at (fault_of list n) (Stem (netlist.inputs + k))) (before ∙ driven_tracks list k)
