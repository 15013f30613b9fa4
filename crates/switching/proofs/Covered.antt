-- Whatever the order of switching, a hold stays within the values of spreading and ends within those of settling.
use Rattle.std.proofs.Common.{◌≡◌, ℕ, zero, suc, ◌<◌, Bool, List, Some, None, Option, sym, refl, ◌∙◌, subst, inl, inr, arith}
use native.Mathlib.Decide.{dec_lt}
use Rattle.ternary.specs.declared.Value.{Value}
use Rattle.ternary.specs.Values.{of, ◌⊑◌, same}
use Rattle.ternary.proofs.Order.{⊑_trans, join_left, join_right}
use Rattle.circuit.specs.Chips.{seen}
use Rattle.switching.specs.Lines.{Each, Lines}
use Rattle.switching.specs.Chips.{Chip, Covers, Extends}
use Rattle.switching.specs.Phases.{target, applied, spread_out, settle, settled}
use Rattle.switching.specs.Switching.{Step, Steps, rest, step, Served, Turn, Turns, none, turn, Hold}
use Rattle.switching.specs.Histories.{Event, beginning, Run, begun, held, anew, at_start, values_after}
use Rattle.switching.proofs.Phases.{spread_rises, spread_closed, settle_falls}

within-≡ : {a b : Bool} {v : Value} → b ≡ a → of a ⊑ v → of b ⊑ v
within-≡ {v} e h = subst (λ x. of x ⊑ v) (sym e) h

-- a line that is free has its value, a stuck one its own
at_value : (stuck : Option Bool) {b : Bool} {v : Value} → (stuck ≡ None → of b ⊑ v) → ((a : Bool) → stuck ≡ Some a → b ≡ a) → of b ⊑ seen of stuck v
at_value None moved own = moved refl
at_value (Some a) moved own = within-≡ (own a refl) same

-- a free line that takes a value
takes : (stuck : Option Bool) {b a : Bool} {v : Value} → stuck ≡ None → b ≡ a → of a ⊑ v → of b ⊑ seen of stuck v
takes stuck {b} {v} free e h = subst (λ x. of b ⊑ seen of x v) (sym free) (within-≡ e h)

never : {stuck : Option Bool} {a : Bool} → stuck ≡ None → stuck ≡ Some a → ⊥
never p q = let z : ◌≡◌ {A = ℕ} 0 1 = cc in omega arith

-- A covers s, and stuck lines have their own values
pub record Inside (c : Chip) (A : Lines Value) (s : Lines Bool) : Type 0 where
  pub covers : Covers c A s
  pub stuck_inputs : Each c.inputs (λ i. (a : Bool) → c.stuck.input i ≡ Some a → s.input i ≡ a)
  pub stuck_gates : Each c.gates (λ k. (a : Bool) → c.stuck.gate k ≡ Some a → s.gate k ≡ a)

module _ (c : Chip) (laws : Extends c) (new : ℕ → Bool) where
  -- A lets every step pass
  record Closed (A : Lines Value) : Type 0 where
    inputs : Each c.inputs (λ i. applied c new i ⊑ A.input i)
    gates : Each c.gates (λ k. target c A k ⊑ A.gate k)

  -- a gate that takes its function's value goes to its target
  moved : {A : Lines Value} {s : Lines Bool} {b : Bool} (k : ℕ) → k < c.gates → Covers c A s → c.stuck.gate k ≡ None → b ≡ c.bit s k → of b ⊑ target c A k
  moved {A} {s} k lt h free e = takes (c.stuck.gate k) free e (laws.sound A s h k lt)

  step_inside : {A : Lines Value} {s t : Lines Bool} → Closed A → Inside c A s → Step c new s t → Inside c A t
  step_inside {A} {s} {t} closed h one = record {
    covers = record {
      inputs = λ i lt. elim (one.inputs i lt) [
        | inl e ↦ within-≡ e (h.covers.inputs i lt)
        | inr m ↦ ⊑_trans (takes (c.stuck.input i) m.0 m.1 same) (closed.inputs i lt)
      ];
      gates = λ k lt. elim (one.gates k lt) [
        | inl e ↦ within-≡ e (h.covers.gates k lt)
        | inr m ↦ ⊑_trans (moved k lt h.covers m.0 m.1) (closed.gates k lt)
      ];
    };
    stuck_inputs = λ i lt a e. elim (one.inputs i lt) [ inl stays ↦ stays ∙ h.stuck_inputs i lt a e | inr m ↦ absurd (never m.0 e) ];
    stuck_gates = λ k lt a e. elim (one.gates k lt) [ inl stays ↦ stays ∙ h.stuck_gates k lt a e | inr m ↦ absurd (never m.0 e) ];
  }

  steps_inside : {A : Lines Value} {s t : Lines Bool} → Closed A → Inside c A s → Steps c new s t → Inside c A t
  steps_inside closed h rest = h
  steps_inside closed h (step one more) = steps_inside closed (step_inside closed h one) more

  -- a gate that is once within its target is so from then on
  kept : {A : Lines Value} {s t : Lines Bool} (k : ℕ) → k < c.gates → Closed A → Inside c A s → of (s.gate k) ⊑ target c A k → Steps c new s t → of (t.gate k) ⊑ target c A k
  kept k lt closed h now rest = now
  kept k lt closed h now (step {t = t} one more) =
      kept k lt closed (step_inside closed h one)
      (elim (one.gates k lt) [ inl e ↦ within-≡ e now | inr m ↦ moved k lt h.covers m.0 m.1 ]) more

  served : {A : Lines Value} {s t : Lines Bool} (k : ℕ) → k < c.gates → Closed A → Inside c A s → c.stuck.gate k ≡ None → (p : Steps c new s t) → Served c new k p → of (t.gate k) ⊑ target c A k
  served k lt closed h free (rest {s = s}) e = moved k lt h.covers free e
  served k lt closed h free (step {s = s} one more) (inl e) = kept k lt closed h (moved k lt h.covers free e) (step one more)
  served k lt closed h free (step {t = t} one more) (inr (inl e)) = kept k lt closed (step_inside closed h one) (moved k lt h.covers free e) more
  served k lt closed h free (step one more) (inr (inr later)) = served k lt closed (step_inside closed h one) free more later

  -- at the end of a turn the inputs are new
  inputs_new : {A : Lines Value} {s t : Lines Bool} → Closed A → Inside c A s → Turn c new s t → Each c.inputs (λ i. of (t.input i) ⊑ applied c new i)
  inputs_new closed h one i lt =
      at_value (c.stuck.input i) (λ free. within-≡ (one.inputs i lt free) same) ((steps_inside closed h one.steps).stuck_inputs i lt)

  turn_inside : {A : Lines Value} {s t : Lines Bool} → Closed A → Inside c A s → Turn c new s t → Inside c (record { input = applied c new; gate = target c A }) t
  turn_inside {A} {t = t} closed h one =
      let after : Inside c A t = steps_inside closed h one.steps in
      record {
        covers = record {
          inputs = inputs_new closed h one;
          gates = λ k lt. elim (c.stuck.gate k) as (λ f. c.stuck.gate k ≡ f → of (t.gate k) ⊑ target c A k) [
            | None ↦ (λ e. served k lt closed h e one.steps (one.gates k lt e))
            | Some a ↦ (λ e. subst (λ f. of (t.gate k) ⊑ seen of f (c.next A k)) (sym e) (within-≡ (after.stuck_gates k lt a e) same))
          ] refl;
        };
        stuck_inputs = after.stuck_inputs;
        stuck_gates = after.stuck_gates;
      }

  module _ (old : Lines Value) where
    abbrev A : Lines Value
    A = spread_out c old new

    abbrev B : ℕ → Lines Value
    B = settle c old new

    A_closed : Closed A
    A_closed = record { inputs = λ i lt. join_right _ _; gates = spread_closed c laws old new }

    B_closed : (j : ℕ) → Closed (B j)
    B_closed j = record { inputs = λ i lt. same; gates = settle_falls c laws old new j }

    start_inside : {s : Lines Bool} → Inside c old s → Inside c A s
    start_inside h = record {
      covers = record {
        inputs = λ i lt. ⊑_trans (h.covers.inputs i lt) (join_left _ _);
        gates = λ k lt. ⊑_trans (h.covers.gates k lt) (spread_rises c laws old new c.gates k);
      };
      stuck_inputs = h.stuck_inputs;
      stuck_gates = h.stuck_gates;
    }

    -- each state that steps reach while the vector is held
    pub steps_within : {s t : Lines Bool} → Inside c old s → Steps c new s t → Inside c A t
    steps_within h p = steps_inside A_closed (start_inside h) p

    turns_within : {n : ℕ} {s t : Lines Bool} → Inside c old s → Turns c new n s t → Inside c A t
    turns_within h none = start_inside h
    turns_within h (turn ts one) = steps_inside A_closed (turns_within h ts) one.steps

    -- after j + 1 turns
    pub turns_inside : (j : ℕ) {s t : Lines Bool} → Inside c old s → Turns c new (suc j) s t → Inside c (B j) t
    turns_inside zero h (turn ts one) =
        let before = turns_within h ts in
        let after = steps_inside A_closed before one.steps in
        record {
          covers = record { inputs = inputs_new A_closed before one; gates = after.covers.gates };
          stuck_inputs = after.stuck_inputs;
          stuck_gates = after.stuck_gates;
        }
    turns_inside (suc j) h (turn ts one) = turn_inside (B_closed j) (turns_inside j h ts) one

    late_inside : (n : ℕ) {s t : Lines Bool} → c.gates < n → Inside c old s → Turns c new n s t → Inside c (settled c old new) t
    late_inside zero lt h ts = absurd (omega arith)
    late_inside (suc n) {t} lt h (turn ts one) = elim (dec_lt c.gates n) [
      | yes l ↦ steps_inside (B_closed c.gates) (late_inside n l h ts) one.steps
      | no l ↦ (let e : n ≡ c.gates = omega arith in subst (λ m. Inside c (B m) t) e (turns_inside n h (turn ts one)))
    ]

    pub hold_inside : {s t : Lines Bool} → Inside c old s → Hold c new s t → Inside c (settled c old new) t
    hold_inside h hold = late_inside hold.count hold.enough h hold.turns

own_value : (stuck : Option Bool) (b a : Bool) → stuck ≡ Some a → seen (λ x. x) stuck b ≡ a
own_value stuck b a e = subst (λ x. seen (λ y. y) x b ≡ a) (sym e) refl

module _ (c : Chip) (laws : Extends c) (start : Lines Bool) where
  started : {t : Lines Bool} → Hold c start.input (beginning c start) t → Inside c (at_start c start) t
  started hold = hold_inside c laws start.input _ begins hold
    where
      begins : Inside c (record { input = λ i. of ((beginning c start).input i); gate = λ k. of ((beginning c start).gate k) }) (beginning c start)
      begins = record {
        covers = record { inputs = λ i lt. same; gates = λ k lt. same };
        stuck_inputs = λ i lt a e. own_value (c.stuck.input i) (start.input i) a e;
        stuck_gates = λ k lt a e. own_value (c.stuck.gate k) (start.gate k) a e;
      }

  -- every run ends within the values of the procedure
  pub run_inside : {h : List Event} {t : Lines Bool} → Run c start h t → Inside c (values_after c start h) t
  run_inside (begun hold) = started hold
  run_inside (held {v = v} before hold) = hold_inside c laws v _ (run_inside before) hold
  run_inside (anew hold) = started hold
