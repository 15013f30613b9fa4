-- A gate that reads no line that changed gets again what it got before.
use Rattle.std.proofs.Common.{◌≡◌, ℕ, zero, suc, ◌+◌, ◌<◌, Bool, true, false, ◌||◌, Option, sym, refl, ap, ◌∙◌, ap₂, arith}
use mathlib.Core.Bool.{false≢true}
use native.Mathlib.Decide.{dec_lt}
use Rattle.ternary.specs.declared.Value.{Value}
use Rattle.ternary.specs.declared.Value.TheVariants.{Zero, One, Two}
use Rattle.ternary.specs.Values.{of}
use Rattle.ternary.specs.Logics.{Logic, three_valued}
use Rattle.ternary.proofs.Keeps.{equal_kept}
use Rattle.circuit.specs.declared.gate.Function.{Function}
use Rattle.circuit.specs.declared.gate.Function.TheVariants.{Complex, CElement}
use Rattle.circuit.specs.declared.gate.Gate.{Gate}
use Rattle.circuit.specs.declared.circuit.Circuit.{Circuit}
use Rattle.circuit.specs.declared.site.Fault.{Fault}
use Rattle.circuit.specs.Gates.{function_of, driven}
use Rattle.circuit.specs.Netlists.{gate_at, pin_at}
use Rattle.circuit.specs.Chips.{seen}
use Rattle.circuit.proofs.Kept.{driven_in_keeps}
use Rattle.switching.specs.declared.Phase.{Phase}
use Rattle.switching.specs.declared.Phase.TheVariants.{Spread, Settle}
use Rattle.switching.specs.Lines.{Lines, line}
use Rattle.switching.specs.Chips.{chip}
use Rattle.switching.specs.Phases.{taken, target}
use Rattle.phases.specs.Reads.{own_read, pins_read, read_by}

-- no part of a no says yes
neither : (a b : Bool) → (a || b) ≡ false → (a ≡ false) × (b ≡ false)
neither true b e = absurd (false≢true (sym e))
neither false b e = (refl, e)

pins_unread : (changed : ℕ → Bool) (g : Gate) (own : Bool) (n : ℕ) → pins_read changed g own n ≡ false → (own ≡ false) × ((j : ℕ) → j < n → changed (pin_at g j) ≡ false)
pins_unread changed g own zero e = (e, λ j lt. absurd (omega arith))
pins_unread changed g own (suc n) e =
    let parts = neither (pins_read changed g own n) (changed (pin_at g n)) e in
    let below = pins_unread changed g own n parts.0 in
    (below.0, λ j lt. elim (dec_lt j n) [ yes h ↦ below.1 j h | no h ↦ (let q : n ≡ j = omega arith in ap (λ (i : ℕ). changed (pin_at g i)) (sym q) ∙ parts.1) ])

-- a complex gate does not read its own line
own_matters : {A : Type 0} (L : Logic A) (pin : ℕ → A) (pins : ℕ) (f : Function) (a b : A) (c : Bool) → own_read f c ≡ false → (c ≡ false → a ≡ b) → function_of L pin a pins f ≡ function_of L pin b pins f
own_matters L pin pins (Complex s) a b c e h = refl
own_matters L pin pins (CElement inverted) a b c e h = ap (λ x. function_of L pin x pins (CElement inverted)) (h e)

driven_own : {A : Type 0} (L : Logic A) (g : Gate) (pin : ℕ → A) (a b : A) (c : Bool) → own_read g.function c ≡ false → (c ≡ false → a ≡ b) → driven L g pin a ≡ driven L g pin b
unfolding driven
driven_own L g pin a b c e h = own_matters L pin g.pins g.function a b c e h

-- what is taken twice is taken once
taken_again : (phase : Phase) (v w : Value) → taken phase (taken phase v w) w ≡ taken phase v w
taken_again Settle v w = refl
taken_again Spread Zero Zero = refl
taken_again Spread Zero One = refl
taken_again Spread Zero Two = refl
taken_again Spread One Zero = refl
taken_again Spread One One = refl
taken_again Spread One Two = refl
taken_again Spread Two w = refl

module _ (c : Circuit) (fault : Option Fault) (changed : ℕ → Bool) (A B : Lines Value)
    (same : (i : ℕ) → i < c.netlist.inputs + c.netlist.gates → changed i ≡ false → line c.netlist B i ≡ line c.netlist A i) where
  target_same : (k : ℕ) → k < c.netlist.gates → read_by changed c.netlist k ≡ false → (changed (c.netlist.inputs + k) ≡ false → B.gate k ≡ A.gate k) → target (chip c.netlist fault) B k ≡ target (chip c.netlist fault) A k
  unfolding read_by
  target_same k lt e own =
      let n = c.netlist in
      let g = gate_at n.gate k in
      let unread = pins_unread changed g _ g.pins e in
      ap (seen of ((chip c.netlist fault).stuck.gate k))
      (driven_in_keeps (equal_kept three_valued) c.netlist fault (line c.netlist B) (line c.netlist A) k (λ j l. same (pin_at (gate_at c.netlist.gate k) j) ((c.lawful.gates_lawful k lt).named j l) (unread.1 j l)) (B.gate k) (B.gate k) refl
      ∙ driven_own three_valued (gate_at c.netlist.gate k) _ (B.gate k) (A.gate k) (changed (c.netlist.inputs + k)) unread.0 own)

  -- after a pass
  pub unread_again : (phase : Phase) (k : ℕ) → k < c.netlist.gates → read_by changed c.netlist k ≡ false → (changed (c.netlist.inputs + k) ≡ false → B.gate k ≡ A.gate k)
      → B.gate k ≡ taken phase (A.gate k) (target (chip c.netlist fault) A k) → taken phase (B.gate k) (target (chip c.netlist fault) B k) ≡ B.gate k
  unread_again phase k lt e own got =
      ap₂ (taken phase) got (target_same k lt e own) ∙ taken_again phase (A.gate k) (target (chip c.netlist fault) A k) ∙ sym got
