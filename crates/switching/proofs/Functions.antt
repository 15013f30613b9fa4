-- The functions of a chip's gates on values extend those on truth values.
use Rattle.std.proofs.Common.{◌≡◌, ◌+◌, ◌-◌, ◌≤◌, Bool, true, false, cond, ltb, Option, refl, arith}
use Rattle.std.proofs.lemmas.Bool.{ltb-true, ltb-false}
use Rattle.ternary.specs.declared.Value.{Value}
use Rattle.ternary.specs.Values.{of, ◌⊑◌}
use Rattle.ternary.specs.Logics.{Logic, three_valued, tracks, by_tracks}
use Rattle.ternary.proofs.Keeps.{Keeps, order_kept, cover_kept, exact_kept, tracks_kept}
use Rattle.circuit.specs.declared.netlist.Netlist.{Netlist}
use Rattle.circuit.specs.declared.circuit.Circuit.{Circuit}
use Rattle.circuit.specs.declared.site.Fault.{Fault}
use Rattle.circuit.specs.Netlists.{gate_at, pin_at}
use Rattle.circuit.proofs.Kept.{driven_in_keeps}
use Rattle.switching.specs.Lines.{Each, Lines, line}
use Rattle.switching.specs.Chips.{gate_value, chip, Covers, Extends}

module _ {A B : Type 0} {L : Logic A} {M : Logic B} {R : A → B → Type 0} (keeps : Keeps L M R) where
  pub line_keeps : (n : Netlist) (s : Lines A) (t : Lines B) → Each n.inputs (λ i. R (s.input i) (t.input i)) → Each n.gates (λ k. R (s.gate k) (t.gate k))
      → Each (n.inputs + n.gates) (λ i. R (line n s i) (line n t i))
  line_keeps n s t inputs gates i lt = elim (ltb i n.inputs) as (λ b. ltb i n.inputs ≡ b → R (cond b (s.input i) (s.gate (i - n.inputs))) (cond b (t.input i) (t.gate (i - n.inputs)))) [
    | true ↦ (λ e. inputs i (ltb-true i n.inputs e))
    | false ↦ (λ e. let up : n.inputs ≤ i = ltb-false i n.inputs e in gates (i - n.inputs) (omega arith))
  ] refl

  -- pins read lines of the circuit: its invariant says so
  pub gate_keeps : (c : Circuit) (f : Option Fault) (s : Lines A) (t : Lines B)
      → Each c.netlist.inputs (λ i. R (s.input i) (t.input i)) → Each c.netlist.gates (λ k. R (s.gate k) (t.gate k))
      → Each c.netlist.gates (λ k. R (gate_value L c.netlist f s k) (gate_value M c.netlist f t k))
  gate_keeps c f s t inputs gates k lt =
      driven_in_keeps keeps c.netlist f (line c.netlist s) (line c.netlist t) k
      (λ j l. line_keeps c.netlist s t inputs gates (pin_at (gate_at c.netlist.gate k) j) ((c.lawful.gates_lawful k lt).named j l))
      (s.gate k) (t.gate k) (gates k lt)

pub extends : (c : Circuit) (f : Option Fault) → Extends (chip c.netlist f)
extends c f = record {
  monotone = λ A B h. gate_keeps order_kept c f A B h.inputs h.gates;
  sound = λ A s h. gate_keeps cover_kept c f s A h.inputs h.gates;
  exact = λ s. gate_keeps exact_kept c f s (record { input = λ i. of (s.input i); gate = λ j. of (s.gate j) }) (λ i lt. refl) (λ k lt. refl);
}

pub tracked : (c : Circuit) (f : Option Fault) (A : Lines Value)
    → Each c.netlist.gates (λ k. gate_value by_tracks c.netlist f (record { input = λ i. tracks (A.input i); gate = λ j. tracks (A.gate j) }) k ≡ tracks (gate_value three_valued c.netlist f A k))
tracked c f A = gate_keeps tracks_kept c f (record { input = λ i. tracks (A.input i); gate = λ j. tracks (A.gate j) }) A (λ i lt. refl) (λ k lt. refl)

pub line_covered : (n : Netlist) (f : Option Fault) (A : Lines Value) (s : Lines Bool) → Covers (chip n f) A s → Each (n.inputs + n.gates) (λ i. of (line n s i) ⊑ line n A i)
line_covered n f A s h = line_keeps cover_kept n s A h.inputs h.gates
