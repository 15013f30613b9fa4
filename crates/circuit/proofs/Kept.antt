-- A gate's function keeps every relation between two logics that their constants, AND, OR and NOT keep.
use Rattle.std.proofs.Common.{ℕ, zero, suc, ◌+◌, ◌<◌, Bool, true, false, cond, get_or, Some, None, Option, arith}
use Rattle.ternary.specs.Logics.{Logic}
use Rattle.ternary.proofs.Keeps.{Keeps}
use Rattle.circuit.specs.declared.gate.Sum.{Sum}
use Rattle.circuit.specs.declared.gate.Function.{Function}
use Rattle.circuit.specs.declared.gate.Function.TheVariants.{Complex, CElement}
use Rattle.circuit.specs.declared.gate.Gate.{Gate}
use Rattle.circuit.specs.declared.netlist.Netlist.{Netlist}
use Rattle.circuit.specs.declared.site.Site.TheVariants.{Pin}
use Rattle.circuit.specs.declared.site.Fault.{Fault}
use Rattle.circuit.specs.Gates.{bit, literal, product, sum, all, hold, function_of, driven}
use Rattle.circuit.specs.Netlists.{gate_at, pin_at}
use Rattle.circuit.specs.Chips.{stuck_at, seen, pin_sees, driven_in}

module _ {A B : Type 0} {L : Logic A} {M : Logic B} {R : A → B → Type 0} (keeps : Keeps L M R) where
  pub seen_keeps : (stuck : Option Bool) {a : A} {b : B} → R a b → R (seen L.const stuck a) (seen M.const stuck b)
  seen_keeps None h = h
  seen_keeps (Some b) h = keeps.const b

  module _ (p : ℕ → A) (q : ℕ → B) where
    literal_keeps : (inverted j : ℕ) → R (p j) (q j) → R (literal L p inverted j) (literal M q inverted j)
    unfolding literal
    literal_keeps inverted j h = elim (bit inverted j) as (λ i. R (cond i (L.invert (p j)) (p j)) (cond i (M.invert (q j)) (q j))) [ true ↦ keeps.invert h | false ↦ h ]

    product_keeps : (used inverted n : ℕ) → ((j : ℕ) → j < n → R (p j) (q j)) → R (product L p used inverted n) (product M q used inverted n)
    product_keeps used inverted zero h = keeps.const true
    product_keeps used inverted (suc n) h =
        let before = product_keeps used inverted n (λ j l. h j (omega arith)) in
        elim (bit used n) as (λ i. R (cond i (L.both (product L p used inverted n) (literal L p inverted n)) (product L p used inverted n)) (cond i (M.both (product M q used inverted n) (literal M q inverted n)) (product M q used inverted n)))
        [ true ↦ keeps.both before (literal_keeps inverted n (h n (omega arith))) | false ↦ before ]

    module _ (pins : ℕ) (h : (j : ℕ) → j < pins → R (p j) (q j)) where
      sum_keeps : (s : Sum) (n : ℕ) → R (sum L p pins s n) (sum M q pins s n)
      sum_keeps s zero = keeps.const false
      sum_keeps s (suc n) = keeps.either (sum_keeps s n) (product_keeps (get_or s.used n 0) (get_or s.inverted n 0) pins h)

    all_keeps : (inverted n : ℕ) → ((j : ℕ) → j < n → R (p j) (q j)) → R (all L p inverted n) (all M q inverted n)
    all_keeps inverted zero h = keeps.const true
    all_keeps inverted (suc n) h = keeps.both (all_keeps inverted n (λ j l. h j (omega arith))) (literal_keeps inverted n (h n (omega arith)))

    hold_keeps : (a : A) (b : B) → R a b → (inverted n : ℕ) → ((j : ℕ) → j < n → R (p j) (q j)) → R (hold L p a inverted n) (hold M q b inverted n)
    hold_keeps a b own inverted zero h = keeps.const false
    hold_keeps a b own inverted (suc n) h =
        keeps.either (hold_keeps a b own inverted n (λ j l. h j (omega arith))) (keeps.both (literal_keeps inverted n (h n (omega arith))) own)

    function_keeps : (pins : ℕ) (f : Function) → ((j : ℕ) → j < pins → R (p j) (q j)) → (a : A) (b : B) → R a b → R (function_of L p a pins f) (function_of M q b pins f)
    function_keeps pins (Complex s) h a b own = sum_keeps pins h s s.products
    function_keeps pins (CElement inverted) h a b own = keeps.either (all_keeps inverted pins h) (hold_keeps a b own inverted pins h)

  pub driven_keeps : (g : Gate) (p : ℕ → A) (q : ℕ → B) → ((j : ℕ) → j < g.pins → R (p j) (q j)) → (a : A) (b : B) → R a b → R (driven L g p a) (driven M g q b)
  unfolding driven
  driven_keeps g p q h a b own = function_keeps p q g.pins g.function h a b own

  -- and so does the function of a gate with a fault: only the lines that its pins read matter, and its own
  pub driven_in_keeps : (n : Netlist) (fault : Option Fault) (line : ℕ → A) (line' : ℕ → B) (k : ℕ)
      → ((j : ℕ) → j < (gate_at n.gate k).pins → R (line (pin_at (gate_at n.gate k) j)) (line' (pin_at (gate_at n.gate k) j)))
      → (a : A) (b : B) → R a b → R (driven_in L n fault line a k) (driven_in M n fault line' b k)
  driven_in_keeps n fault line line' k h a b own =
      driven_keeps (gate_at n.gate k) (pin_sees L n fault line k) (pin_sees M n fault line' k) (λ j l. seen_keeps (stuck_at fault (Pin (n.inputs + k) j)) (h j l)) a b own
