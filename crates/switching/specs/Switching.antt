-- Free switching: what a chip may do while its inputs are held, whatever the delays of its gates.
use Rattle.std.specs.Prelude.{◌≡◌, ℕ, zero, suc, ◌<◌, Bool, ◌⊎◌, None}
use Rattle.switching.specs.Lines.{Each, Lines}
use Rattle.switching.specs.Chips.{Chip}

-- while the inputs new are held
module _ (c : Chip) (new : ℕ → Bool) where
  -- One step: each line stays, or it is not stuck and moves. An input moves to its new value, a gate to its function's value as read before the step.
  pub record Step (s t : Lines Bool) : Type 0 where
    pub inputs : Each c.inputs (λ i. (t.input i ≡ s.input i) ⊎ ((c.stuck.input i ≡ None) × (t.input i ≡ new i)))
    pub gates : Each c.gates (λ k. (t.gate k ≡ s.gate k) ⊎ ((c.stuck.gate k ≡ None) × (t.gate k ≡ c.bit s k)))

  -- a stretch of steps
  pub data Steps : Lines Bool → Lines Bool → Type 0 where
    rest : {s : Lines Bool} → Steps s s
    step : {s t u : Lines Bool} → Step s t → Steps t u → Steps s u

  -- gate k at some moment of the stretch, its first and its last included, takes its function's value or is found at it
  abbrev pub Served : (k : ℕ) {s t : Lines Bool} → Steps s t → Type 0
  Served k (rest {s = s}) = s.gate k ≡ c.bit s k
  Served k (step {s = s} {t = t} one more) = (s.gate k ≡ c.bit s k) ⊎ (t.gate k ≡ c.bit s k) ⊎ Served k more

  -- A turn: by its end every input is new and every gate has been served, save those that are stuck.
  pub record Turn (s t : Lines Bool) : Type 0 where
    pub steps : Steps s t
    pub inputs : Each c.inputs (λ i. c.stuck.input i ≡ None → t.input i ≡ new i)
    pub gates : Each c.gates (λ k. c.stuck.gate k ≡ None → Served k steps)

  -- n turns, one after the other
  pub data Turns : ℕ → Lines Bool → Lines Bool → Type 0 where
    none : {s : Lines Bool} → Turns zero s s
    turn : {n : ℕ} {s t u : Lines Bool} → Turns n s t → Turn t u → Turns (suc n) s u

  -- a hold: more turns than the chip has gates
  pub record Hold (s t : Lines Bool) : Type 0 where
    pub count : ℕ
    pub enough : c.gates < count
    pub turns : Turns count s t
