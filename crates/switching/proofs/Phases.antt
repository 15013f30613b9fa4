-- Spreading rises and settling falls, and each comes to rest within as many passes as there are gates.
use Rattle.std.proofs.Common.{◌≡◌, ℕ, zero, suc, ◌≤◌, Bool, Some, None, Option, sym, refl, ap₂, arith}
use Rattle.ternary.specs.declared.Value.{Value}
use Rattle.ternary.specs.declared.Value.TheVariants.{Zero, One, Two}
use Rattle.ternary.specs.Values.{of, ◌⊑◌, same, unsettled}
use Rattle.ternary.proofs.Order.{⊑_trans, ⊑_antisym, ⊑-of-≡, join_left, join_right}
use Rattle.circuit.specs.Chips.{seen}
use Rattle.switching.specs.declared.Phase.{Phase}
use Rattle.switching.specs.declared.Phase.TheVariants.{Spread, Settle}
use Rattle.switching.specs.Lines.{Each, Lines}
use Rattle.switching.specs.Chips.{Chip, Within, Extends}
use Rattle.switching.specs.Phases.{taken, target, gates_after, Ready, spread, spread_out, settle, passes, Idle}
use Rattle.switching.proofs.Counts.{comes_to_rest, rest_lasts, rest_is_one}

-- a value at 2 counts when values rise
abbrev at_two : Value → ℕ
at_two Two = 1
at_two Zero = 0
at_two One = 0

at_two_top : (v : Value) → at_two v ≤ 1
at_two_top Zero = omega arith
at_two_top One = omega arith
at_two_top Two = omega arith

at_two_up : (v w : Value) → v ⊑ w → at_two v ≤ at_two w
at_two_up v w same = omega arith
at_two_up v w unsettled = at_two_top v

at_two_stop : (v w : Value) → v ⊑ w → at_two w ≤ at_two v → v ≡ w
at_two_stop v w same h = refl
at_two_stop v w unsettled h = is_two v h
  where
    is_two : (v : Value) → 1 ≤ at_two v → v ≡ Two
    is_two Zero h = absurd (omega arith)
    is_two One h = absurd (omega arith)
    is_two Two h = refl

-- one that is settled counts when they fall
abbrev not_two : Value → ℕ
not_two Two = 0
not_two Zero = 1
not_two One = 1

not_two_top : (v : Value) → not_two v ≤ 1
not_two_top Zero = omega arith
not_two_top One = omega arith
not_two_top Two = omega arith

not_two_up : (v w : Value) → w ⊑ v → not_two v ≤ not_two w
not_two_up v w same = omega arith
not_two_up v w unsettled = omega arith

not_two_stop : (v w : Value) → w ⊑ v → not_two w ≤ not_two v → v ≡ w
not_two_stop v w same h = refl
not_two_stop v w unsettled h = is_two w h
  where
    is_two : (w : Value) → not_two w ≤ 0 → Two ≡ w
    is_two Zero h = absurd (omega arith)
    is_two One h = absurd (omega arith)
    is_two Two h = refl

seen_mono : (stuck : Option Bool) {v w : Value} → v ⊑ w → seen of stuck v ⊑ seen of stuck w
seen_mono None h = h
seen_mono (Some b) h = same

module _ (c : Chip) (laws : Extends c) where
  target_up : (A B : Lines Value) → Within c A B → Each c.gates (λ k. target c A k ⊑ target c B k)
  target_up A B h k lt = seen_mono (c.stuck.gate k) (laws.monotone A B h k lt)

  -- equal lines, equal targets
  pub target_alike : (A B : Lines Value) → Each c.inputs (λ i. A.input i ≡ B.input i) → Each c.gates (λ k. A.gate k ≡ B.gate k) → Each c.gates (λ k. target c A k ≡ target c B k)
  target_alike A B inputs gates k lt =
      ⊑_antisym
      (target_up A B (record { inputs = λ i l. ⊑-of-≡ (inputs i l); gates = λ j l. ⊑-of-≡ (gates j l) }) k lt)
      (target_up B A (record { inputs = λ i l. ⊑-of-≡ (sym (inputs i l)); gates = λ j l. ⊑-of-≡ (sym (gates j l)) }) k lt)

  -- equal values before, equal values after any number of passes
  pub passes_alike : (phase : Phase) (x y g h : ℕ → Value) → Each c.inputs (λ i. x i ≡ y i) → Each c.gates (λ k. g k ≡ h k)
      → (j : ℕ) → Each c.gates (λ k. gates_after c phase x g j k ≡ gates_after c phase y h j k)
  passes_alike phase x y g h inputs gates zero = gates
  passes_alike phase x y g h inputs gates (suc j) = λ k lt.
      let before : Each c.gates (λ k. gates_after c phase x g j k ≡ gates_after c phase y h j k) = passes_alike phase x y g h inputs gates j in
      ap₂ (taken phase) (before k lt) (target_alike _ _ inputs before k lt)

  -- the values after j passes from A, row by row
  abbrev rows : Phase → Lines Value → ℕ → ℕ → Value
  rows phase A = gates_after c phase A.input A.gate

  -- a row at rest stays at rest
  gates_stay : (phase : Phase) (A : Lines Value) (j : ℕ) → Each c.gates (λ k. rows phase A j k ≡ rows phase A (suc j) k)
      → Each c.gates (λ k. rows phase A (suc j) k ≡ rows phase A (suc (suc j)) k)
  gates_stay phase A j e k lt = ap₂ (taken phase) (e k lt) (target_alike _ _ (λ i _. refl) e k lt)

  -- settling only falls
  gates_fall : (A : Lines Value) → Ready c Settle A → (j : ℕ) → Each c.gates (λ k. rows Settle A (suc j) k ⊑ rows Settle A j k)
  gates_fall A ready zero k lt = ready k lt
  gates_fall A ready (suc j) k lt = target_up _ _ (record { inputs = λ i _. same; gates = gates_fall A ready j }) k lt

  -- from where it may begin, each phase comes to rest
  pub gates_rest : (phase : Phase) (A : Lines Value) → Ready c phase A → Each c.gates (λ k. rows phase A c.gates k ≡ rows phase A (suc c.gates) k)
  gates_rest Spread A ready = comes_to_rest ◌⊑◌ at_two at_two_top at_two_up at_two_stop c.gates (rows Spread A) (λ j k lt. join_left _ _) (gates_stay Spread A)
  gates_rest Settle A ready = comes_to_rest (λ v w. w ⊑ v) not_two not_two_top not_two_up not_two_stop c.gates (rows Settle A) (gates_fall A ready) (gates_stay Settle A)

  -- and any row at rest is the one after as many passes as there are gates
  pub gates_end : (phase : Phase) (A : Lines Value) → Ready c phase A → (j : ℕ) → Each c.gates (λ k. rows phase A j k ≡ rows phase A (suc j) k) → Each c.gates (λ k. rows phase A j k ≡ rows phase A c.gates k)
  gates_end phase A ready = rest_is_one c.gates (rows phase A) (gates_stay phase A) (gates_rest phase A ready)

  module _ (old : Lines Value) (new : ℕ → Bool) where
    -- spreading only rises
    pub spread_rises : (j k : ℕ) → old.gate k ⊑ (spread c old new j).gate k
    spread_rises zero k = same
    spread_rises (suc j) k = ⊑_trans (spread_rises j k) (join_left _ _)

    -- where it rests, what each gate's line is to be lies within its value
    pub spread_closed : Each c.gates (λ k. target c (spread_out c old new) k ⊑ (spread_out c old new).gate k)
    spread_closed k lt = ⊑_trans (join_right _ _) (⊑-of-≡ (sym (gates_rest Spread (spread c old new 0) tt k lt)))

    -- so settling may begin there
    pub settle_ready : Ready c Settle (settle c old new 0)
    settle_ready k lt = ⊑_trans (target_up _ (spread_out c old new) (record { inputs = λ i _. join_right _ _; gates = λ i _. same }) k lt) (spread_closed k lt)

    pub settle_falls : (j : ℕ) → Each c.gates (λ k. (settle c old new (suc j)).gate k ⊑ (settle c old new j).gate k)
    settle_falls = gates_fall (settle c old new 0) settle_ready

    pub rests : (phase : Phase) → Idle c phase old new c.gates
    rests Spread = gates_rest Spread (spread c old new 0) tt
    rests Settle = gates_rest Settle (settle c old new 0) settle_ready

    stays : (phase : Phase) (j : ℕ) → Idle c phase old new j → Idle c phase old new (suc j)
    stays Spread = gates_stay Spread (spread c old new 0)
    stays Settle = gates_stay Settle (settle c old new 0)

    pub lasts : (phase : Phase) (j m : ℕ) → Idle c phase old new j → j ≤ m
        → Idle c phase old new m × Each c.gates (λ k. (passes c phase old new j).gate k ≡ (passes c phase old new m).gate k)
    lasts phase = rest_lasts c.gates (λ j. (passes c phase old new j).gate) (stays phase)

    pub ends : (phase : Phase) (j : ℕ) → Idle c phase old new j → Each c.gates (λ k. (passes c phase old new j).gate k ≡ (passes c phase old new c.gates).gate k)
    ends phase = rest_is_one c.gates (λ j. (passes c phase old new j).gate) (stays phase) (rests phase)
