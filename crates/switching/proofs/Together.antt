-- Every history has a run: the one in which all lines switch together. And steps after a turn belong to it.
use Rattle.std.proofs.Common.{◌≡◌, ℕ, zero, suc, ◌<◌, Bool, ◌⊎◌, List, [], ◌∷◌, Some, None, Option, sym, refl, ◌∙◌, subst, inl, inr, arith}
use Rattle.switching.specs.Lines.{Lines}
use Rattle.switching.specs.Chips.{Chip}
use Rattle.switching.specs.Switching.{Steps, rest, step, Served, Turn, Turns, none, turn, Hold}
use Rattle.switching.specs.Histories.{Event, vector, restart, beginning, Run, begun, held, anew}

-- a free line takes its value, a stuck one stays
abbrev moved : Option Bool → Bool → Bool → Bool
moved None old new = new
moved (Some b) old new = old

moves : (stuck : Option Bool) (old new : Bool) → (moved stuck old new ≡ old) ⊎ ((stuck ≡ None) × (moved stuck old new ≡ new))
moves None old new = inr (refl, refl)
moves (Some b) old new = inl refl

free_moves : (stuck : Option Bool) (old new : Bool) → stuck ≡ None → moved stuck old new ≡ new
free_moves stuck old new e = subst (λ x. moved x old new ≡ new) (sym e) refl

module _ (c : Chip) where
  module _ (new : ℕ → Bool) where
    abbrev together : Lines Bool → Lines Bool
    together s = record { input = λ i. moved (c.stuck.input i) (s.input i) (new i); gate = λ k. moved (c.stuck.gate k) (s.gate k) (c.bit s k) }

    one_turn : (s : Lines Bool) → Turn c new s (together s)
    one_turn s = record {
      steps = step (record { inputs = λ i lt. moves (c.stuck.input i) (s.input i) (new i); gates = λ k lt. moves (c.stuck.gate k) (s.gate k) (c.bit s k) }) rest;
      inputs = λ i lt e. free_moves (c.stuck.input i) (s.input i) (new i) e;
      gates = λ k lt e. inr (inl (free_moves (c.stuck.gate k) (s.gate k) (c.bit s k) e));
    }

    many : (n : ℕ) (s : Lines Bool) → (t : Lines Bool) × Turns c new n s t
    many zero s = (s, none)
    many (suc n) s = let before = many n s in (together before.0, turn before.1 (one_turn before.0))

    a_hold : (s : Lines Bool) → (t : Lines Bool) × Hold c new s t
    a_hold s = let all = many (suc c.gates) s in (all.0, record { count = suc c.gates; enough = omega arith; turns = all.1 })

    -- two stretches, one after the other
    joined : {s t u : Lines Bool} → Steps c new s t → Steps c new t u → Steps c new s u
    joined rest q = q
    joined (step one more) q = step one (joined more q)

    -- found at its value at the first moment
    found_first : {s t : Lines Bool} (k : ℕ) → s.gate k ≡ c.bit s k → (q : Steps c new s t) → Served c new k q
    found_first k e rest = e
    found_first k e (step one more) = inl e

    served_on : {s t u : Lines Bool} (k : ℕ) (p : Steps c new s t) → Served c new k p → (q : Steps c new t u) → Served c new k (joined p q)
    unfolding joined
    served_on k rest e q = found_first k e q
    served_on k (step one more) (inl e) q = inl e
    served_on k (step one more) (inr (inl e)) q = inr (inl e)
    served_on k (step one more) (inr (inr e)) q = inr (inr (served_on k more e q))

    new_on : {t u : Lines Bool} (i : ℕ) → i < c.inputs → t.input i ≡ new i → Steps c new t u → u.input i ≡ new i
    new_on i lt e rest = e
    new_on i lt e (step one more) = new_on i lt (elim (one.inputs i lt) [ inl same ↦ same ∙ e | inr m ↦ m.1 ]) more

    pub turn_goes_on : (s t u : Lines Bool) → Turn c new s t → Steps c new t u → Turn c new s u
    turn_goes_on s t u one q = record {
      steps = joined one.steps q;
      inputs = λ i lt free. new_on i lt (one.inputs i lt free) q;
      gates = λ k lt free. served_on k one.steps (one.gates k lt free) q;
    }

  pub a_run : (start : Lines Bool) (h : List Event) → (s : Lines Bool) × Run c start h s
  a_run start [] = let all = a_hold start.input (beginning c start) in (all.0, begun all.1)
  a_run start (vector v ∷ h) = let before = a_run start h in let all = a_hold v before.0 in (all.0, held before.1 all.1)
  a_run start (restart ∷ h) = let all = a_hold start.input (beginning c start) in (all.0, anew all.1)
