-- Whether a gate reads a line that changed, pin by pin and by a walk over its pins.
use Rattle.std.proofs.Common.{◌≡◌, ℕ, zero, suc, ◌≤◌, Bool, true, false, ◌||◌, length, take, refl, ap, add-one, arith}
use Rattle.std.specs.List.{list_any}
use Rattle.std.proofs.lemmas.List.Folds.{list_any_more}
use Rattle.circuit.specs.declared.gate.Gate.{Gate}
use Rattle.circuit.specs.Netlists.{pin_at}
use Rattle.phases.specs.Reads.{pins_read}

-- its pins, gone over
pub pins_any : (changed : ℕ → Bool) (g : Gate) (n : ℕ) → n ≤ length g.pin → list_any changed (take n g.pin) ≡ pins_read changed g false n
pins_any changed g zero l = refl
pins_any changed g (suc n) l = rw (← add-one, list_any_more changed g.pin n 0 (omega arith)) (ap (λ (b : Bool). b || changed (pin_at g n)) (pins_any changed g n (omega arith)))

-- its own line alone is enough
pub own_enough : (changed : ℕ → Bool) (g : Gate) (n : ℕ) → true ≡ pins_read changed g true n
own_enough changed g zero = refl
own_enough changed g (suc n) = ap (λ (b : Bool). b || changed (pin_at g n)) (own_enough changed g n)
