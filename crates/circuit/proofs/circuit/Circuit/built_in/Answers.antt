use Rattle.std.proofs.Common.{ℕ, zero, suc, ◌+◌, ◌<◌, refl, arith, lit<, lit≤}
use Rattle.circuit.specs.Gates.{literal, driven}
use Rattle.circuit.proofs.circuit.Circuit.built_in.Goals as goal

-- a fact of the one gate, pin, product or output
one : (P : ℕ → Type 0) → P 0 → (k : ℕ) → k < 1 → P k
one P z zero h = z
one P z (suc k) h = absurd (omega arith)

-- there is no second output
none : (P : ℕ → Type 0) → (i : ℕ) → i + 1 < 1 → P i
none P i h = absurd (omega arith)

pub invariant_of-result : goal.invariant_of-result
unfolding literal driven
invariant_of-result c =
    record {
      lawful = record {
        inputs_some = lit< tt;
        inputs_few = lit≤ tt;
        gates_some = lit< tt;
        gates_few = lit≤ tt;
        outputs_some = lit< tt;
        outputs_few = lit≤ tt;
        gates_lawful = one _ record {
          pins_enough = lit≤ tt;
          pins_few = lit≤ tt;
          named = one _ (lit< tt);
          products_some = lit< tt;
          products_few = lit≤ tt;
          used_some = one _ (lit< tt);
          used_within = one _ (lit< tt);
          inverted_used = one _ refl;
        };
        gate_lines = one _ (lit≤ tt, lit< tt);
        rising = none _;
      };
      rest = one _ refl;
    }
