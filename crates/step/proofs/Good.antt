-- The good circuit is that of any number above 191.
use Rattle.std.proofs.Common.{◌≡◌, ℕ, ◌+◌, ◌≤◌, Bool, true, false, List, Option, refl, sym, ap, ◌∙◌, ap₂, arith}
use mathlib.Core.Path.{fun_ext}
use Rattle.ternary.specs.declared.Value.{Value}
use Rattle.ternary.specs.Logics.{Tracks as Pair, by_tracks}
use Rattle.circuit.specs.declared.site.Site.{Site}
use Rattle.circuit.specs.declared.site.Fault.{Fault}
use Rattle.circuit.specs.declared.site.FaultList.{FaultList}
use Rattle.circuit.specs.Chips.{stuck_at, seen}
use Rattle.site_index.specs.Sites.{fault_of}
use Rattle.site_index.proofs.Leading.{fault_past}
use Rattle.track.specs.declared.table.Line.{Line}
use Rattle.track.specs.declared.table.Tracks.{Tracks}
use Rattle.track.specs.Answers.{unless, answers, goods, whole, value}
use Rattle.step.specs.Rows.{look, unknown, stored_at, held_at, draft_at, reading, good_stored_at, good_held_at, good_draft_at, good_reading}

unless_none : (b : Bool) → unless b false ≡ b
unless_none true = refl
unless_none false = refl

module _ {S : Type 0} (m : S → ℕ → Bool) (within : (s : S) (n : ℕ) → 192 ≤ n → m s n ≡ false) (n : ℕ) (le : 192 ≤ n) where
  pub answers_good : (t : Tracks S) → answers m t n ≡ goods t
  answers_good t = ap₂ (λ (a b : Bool). record { may_be_1 = a; may_be_0 = b })
      (ap (unless t.one.good) (within t.one.differ n le) ∙ unless_none t.one.good)
      (ap (unless t.zero.good) (within t.zero.differ n le) ∙ unless_none t.zero.good)

  pub stored_good : (lines : List (Line S)) (i : ℕ) → stored_at m lines n i ≡ good_stored_at lines i
  stored_good lines i = ap (λ (f : Line S → Pair). look f unknown lines i) (fun_ext (λ x. answers_good x.held))

  pub held_good : (lines : List (Line S)) (i : ℕ) → held_at m lines n i ≡ good_held_at lines i
  held_good lines i = ap (λ (f : Line S → Pair). look f unknown lines i) (fun_ext (λ x. ap whole (answers_good x.held)))

  pub draft_good : (lines : List (Line S)) (i : ℕ) → draft_at m lines n i ≡ good_draft_at lines i
  draft_good lines i = ap (λ (f : Line S → Pair). look f unknown lines i) (fun_ext (λ x. answers_good x.draft))

  pub reading_good : (inputs : ℕ) (lines : List (Line S)) → reading m inputs lines n ≡ good_reading inputs lines
  reading_good inputs lines = ap₂ (λ (f g : ℕ → Value). record { input = f; gate = g })
      (fun_ext (λ i. ap value (held_good lines i)))
      (fun_ext (λ k. ap value (held_good lines (inputs + k))))

-- a fault's value that is given at a site leaves the good circuit as it was
pub stuck_good : {S : Type 0} (m : S → ℕ → Bool) → ((s : S) (n : ℕ) → 192 ≤ n → m s n ≡ false) → (list : FaultList) (site : Site) (old new : Tracks S)
    → ((n : ℕ) → answers m new n ≡ seen by_tracks.const (stuck_at (fault_of list n) site) (answers m old n)) → goods new ≡ answers m old 192
stuck_good m within list site old new e =
    sym (answers_good m within 192 (omega arith) new)
    ∙ e 192
    ∙ ap (λ (f : Option Fault). seen by_tracks.const (stuck_at f site) (answers m old 192)) (fault_past list 192 (omega arith))
