-- Whether a gate is at rest, seen on the values of the lines.
use Rattle.std.proofs.Common.{◌≡◌, ℕ, ◌+◌, ◌<◌, false, List, get_or, None, sym, ap, ◌∙◌, arith}
use Rattle.ternary.specs.declared.Value.{Value}
use Rattle.ternary.specs.Logics.{three_valued}
use Rattle.ternary.specs.Values.{of}
use Rattle.ternary.proofs.Keeps.{exact_kept}
use Rattle.ternary.proofs.Order.{of_within, ⊑-of-≡}
use Rattle.circuit.specs.declared.netlist.Netlist.{Netlist}
use Rattle.circuit.specs.Netlists.{gate_at, pin_at, driven_by, Rests, Lawful}
use Rattle.circuit.specs.Chips.{value_at, driven_in}
use Rattle.circuit.proofs.Kept.{driven_in_keeps}

module _ (n : Netlist) (law : Lawful n) (values : List Value) (same : (i : ℕ) → i < 48 → value_at values i ≡ of (get_or n.start i false)) (k : ℕ) (lt : k < n.gates) where
  exact : of (driven_by (gate_at n.gate k) n.start (get_or n.start (n.inputs + k) false)) ≡ driven_in three_valued n None (value_at values) (value_at values (n.inputs + k)) k
  exact = driven_in_keeps exact_kept n None (λ i. get_or n.start i false) (value_at values) k
      (λ j l. sym (same (pin_at (gate_at n.gate k) j) (let named = (law.gates_lawful k lt).named j l in omega (arith, law.inputs_few, law.gates_few))))
      _ _ (sym (same (n.inputs + k) (omega (arith, law.inputs_few, law.gates_few))))

  pub rests_if : driven_in three_valued n None (value_at values) (value_at values (n.inputs + k)) k ≡ value_at values (n.inputs + k) → Rests n.inputs n.gate n.start k
  rests_if e = sym (of_within _ _ (⊑-of-≡ (exact ∙ e ∙ same (n.inputs + k) (omega (arith, law.inputs_few, law.gates_few)))))

  pub if_rests : Rests n.inputs n.gate n.start k → driven_in three_valued n None (value_at values) (value_at values (n.inputs + k)) k ≡ value_at values (n.inputs + k)
  if_rests r = sym exact ∙ sym (ap of r) ∙ sym (same (n.inputs + k) (omega (arith, law.inputs_few, law.gates_few)))
