-- A netlist and its trimmed form say the same: what is lawful, what is driven, and what is at rest.
use Rattle.std.proofs.Common.{◌≡◌, ℕ, zero, suc, ◌+◌, ◌-◌, ◌<◌, ◌≤◌, Bool, true, false, cond, ◌&&◌, ltb, List, [], ◌∷◌, map, get_or, take, Some, None, Option, MatchOption, option_map, sym, refl, ap, ◌∙◌, add-one, subst, inl, inr, true≢false, arith}
use mathlib.Core.Bool.{false≢true}
use Rattle.std.proofs.lemmas.List.{get_or-take}
use Rattle.std.proofs.lemmas.Bool.{cases_eq, leb-true, ltb-true}
use Rattle.circuit.specs.declared.gate.Sum.{Sum}
use Rattle.circuit.specs.declared.gate.Function.{Function}
use Rattle.circuit.specs.declared.gate.Function.TheVariants.{Complex, CElement}
use Rattle.circuit.specs.declared.gate.Gate.{Gate}
use Rattle.circuit.specs.declared.netlist.Netlist.{Netlist}
use Rattle.circuit.specs.declared.site.Site.{Site}
use Rattle.circuit.specs.declared.site.Site.TheVariants.{Stem, Pin}
use Rattle.circuit.specs.Gates.{Logic, bit, literal, product, sum, all, hold, function_of, driven}
use Rattle.circuit.specs.Netlists.{gate_at, pin_at, pins_of, least_pins, products, used_at, inverted_at, driven_by, same, Rests, AtRest, restless_from, restless, LawfulGate, Lawful}
use Rattle.circuit.specs.Netlists.{trimmed_function, trimmed_gate, trimmed, sited}

-- a gate of the trimmed table is the trimmed gate of the table
pub gate_at_trimmed : (gs : List Gate) (n k : ℕ) → k < n → gate_at (map trimmed_gate (take n gs)) k ≡ trimmed_gate (gate_at gs k)
gate_at_trimmed gs zero k h = absurd (omega arith)
gate_at_trimmed [] (suc n) k h = refl
gate_at_trimmed (g ∷ gs) (suc n) zero h = refl
gate_at_trimmed (g ∷ gs) (suc n) (suc k) h = gate_at_trimmed gs n k (omega arith)

-- a function and its trimmed form have the same counts and, below them, the same masks
least_trimmed : (f : Function) → least_pins (trimmed_function f) ≡ least_pins f
least_trimmed (Complex s) = refl
least_trimmed (CElement inverted) = refl

products_trimmed : (f : Function) → products (trimmed_function f) ≡ products f
products_trimmed (Complex s) = refl
products_trimmed (CElement inverted) = refl

used_trimmed : (pins : ℕ) (f : Function) (p : ℕ) → p < products f → used_at pins (trimmed_function f) p ≡ used_at pins f p
used_trimmed pins (Complex s) p h = get_or-take s.products s.used p 0 h
used_trimmed pins (CElement inverted) p h = refl

inverted_trimmed : (f : Function) (p : ℕ) → p < products f → inverted_at (trimmed_function f) p ≡ inverted_at f p
inverted_trimmed (Complex s) p h = get_or-take s.products s.inverted p 0 h
inverted_trimmed (CElement inverted) p h = refl

pub lawful_gate_from_trimmed : (lines : ℕ) (g : Gate) → LawfulGate lines (trimmed_gate g) → LawfulGate lines g
lawful_gate_from_trimmed lines g law =
    let f : Function = g.function in
    let below : (p : ℕ) → p < products f → p < products (trimmed_function f) = λ p h. omega (arith, products_trimmed f) in
    record {
      pins_enough = omega (arith, least_trimmed f, law.pins_enough);
      pins_few = law.pins_few;
      named = λ j h. omega (arith, get_or-take g.pins g.pin j 0 h, law.named j h);
      products_some = omega (arith, products_trimmed f, law.products_some);
      products_few = omega (arith, products_trimmed f, law.products_few);
      used_some = λ p h. omega (arith, used_trimmed g.pins f p h, law.used_some p (below p h));
      used_within = λ p h. omega (arith, used_trimmed g.pins f p h, law.used_within p (below p h));
      inverted_used = λ p h.
          let u = used_trimmed g.pins f p h in
          let i = inverted_trimmed f p h in
          let e = law.inverted_used p (below p h) in
          cc;
    }

pub lawful_from_trimmed : (n : Netlist) → Lawful (trimmed n) → Lawful n
lawful_from_trimmed n law =
    record {
      inputs_some = law.inputs_some;
      inputs_few = law.inputs_few;
      gates_some = law.gates_some;
      gates_few = law.gates_few;
      outputs_some = law.outputs_some;
      outputs_few = law.outputs_few;
      gates_lawful = λ k h. lawful_gate_from_trimmed _ _ (subst (LawfulGate (n.inputs + n.gates)) (gate_at_trimmed n.gate n.gates k h) (law.gates_lawful k h));
      gate_lines = λ i h.
          let e = get_or-take n.outputs n.output i 0 h in
          let l = law.gate_lines i h in
          (omega arith, omega arith);
      rising = λ i h.
          let b : i < n.outputs = omega arith in
          omega (arith, get_or-take n.outputs n.output i 0 b, get_or-take n.outputs n.output (i + 1) 0 h, law.rising i h);
    }

-- What a gate drives depends on its pins only, and on the masks that it needs.
module _ {A : Type 0} (L : Logic A) where
  literal_same : (pin pin' : ℕ → A) (inverted j : ℕ) → pin j ≡ pin' j → literal L pin inverted j ≡ literal L pin' inverted j
  unfolding literal
  literal_same pin pin' inverted j e = ap (λ (x : A). cond (bit inverted j) (L.invert x) x) e

  product_same : (pin pin' : ℕ → A) (used inverted n : ℕ) → ((j : ℕ) → j < n → pin j ≡ pin' j) → product L pin used inverted n ≡ product L pin' used inverted n
  product_same pin pin' used inverted zero h = refl
  product_same pin pin' used inverted (suc n) h =
      let e = product_same pin pin' used inverted n (λ j l. h j (omega arith)) in
      let f = literal_same pin pin' inverted n (h n (omega arith)) in
      cc

  sum_same : (pin pin' : ℕ → A) (pins : ℕ) (s : Sum) (n : ℕ) → ((j : ℕ) → j < pins → pin j ≡ pin' j) → sum L pin pins s n ≡ sum L pin' pins s n
  sum_same pin pin' pins s zero h = refl
  sum_same pin pin' pins s (suc n) h =
      let e = sum_same pin pin' pins s n h in
      let f = product_same pin pin' (get_or s.used n 0) (get_or s.inverted n 0) pins h in
      cc

  all_same : (pin pin' : ℕ → A) (inverted n : ℕ) → ((j : ℕ) → j < n → pin j ≡ pin' j) → all L pin inverted n ≡ all L pin' inverted n
  all_same pin pin' inverted zero h = refl
  all_same pin pin' inverted (suc n) h =
      let e = all_same pin pin' inverted n (λ j l. h j (omega arith)) in
      let f = literal_same pin pin' inverted n (h n (omega arith)) in
      cc

  hold_same : (pin pin' : ℕ → A) (own : A) (inverted n : ℕ) → ((j : ℕ) → j < n → pin j ≡ pin' j) → hold L pin own inverted n ≡ hold L pin' own inverted n
  hold_same pin pin' own inverted zero h = refl
  hold_same pin pin' own inverted (suc n) h =
      let e = hold_same pin pin' own inverted n (λ j l. h j (omega arith)) in
      let f = literal_same pin pin' inverted n (h n (omega arith)) in
      cc

  function_same : (pin pin' : ℕ → A) (own : A) (pins : ℕ) (f : Function) → ((j : ℕ) → j < pins → pin j ≡ pin' j) → function_of L pin own pins f ≡ function_of L pin' own pins f
  function_same pin pin' own pins (Complex s) h = sum_same pin pin' pins s s.products h
  function_same pin pin' own pins (CElement inverted) h =
      let e = all_same pin pin' inverted pins h in
      let f = hold_same pin pin' own inverted pins h in
      cc

  pub driven_same : (g : Gate) (pin pin' : ℕ → A) (own : A) → ((j : ℕ) → j < g.pins → pin j ≡ pin' j) → driven L g pin own ≡ driven L g pin' own
  unfolding driven
  driven_same g pin pin' own h = function_same pin pin' own g.pins g.function h

  sum_trimmed : (pin : ℕ → A) (pins m : ℕ) (s : Sum) (n : ℕ) → n ≤ m → sum L pin pins (record { products = m; used = take m s.used; inverted = take m s.inverted }) n ≡ sum L pin pins s n
  sum_trimmed pin pins m s zero h = refl
  sum_trimmed pin pins m s (suc n) h =
      let e = sum_trimmed pin pins m s n (omega arith) in
      let u = get_or-take m s.used n 0 (omega arith) in
      let i = get_or-take m s.inverted n 0 (omega arith) in
      cc

  function_trimmed : (pin : ℕ → A) (own : A) (pins : ℕ) (f : Function) → function_of L pin own pins (trimmed_function f) ≡ function_of L pin own pins f
  function_trimmed pin own pins (Complex s) = sum_trimmed pin pins s.products s s.products (omega arith)
  function_trimmed pin own pins (CElement inverted) = refl

  pub driven_trimmed_gate : (g : Gate) (pin : ℕ → A) (own : A) → driven L (trimmed_gate g) pin own ≡ driven L g pin own
  unfolding driven
  driven_trimmed_gate g pin own = function_trimmed pin own g.pins g.function

-- what a gate drives does not depend on what trimming cuts off
pub driven_trimmed : (lines : ℕ) (g : Gate) (values : List Bool) (own : Bool) → LawfulGate lines g → driven_by (trimmed_gate g) (take lines values) own ≡ driven_by g values own
driven_trimmed lines g values own law =
    driven_trimmed_gate _ g (pins_of (trimmed_gate g) (take lines values)) own ∙ driven_same _ g (pins_of (trimmed_gate g) (take lines values)) (pins_of g values) own (λ j h. ap (λ (i : ℕ). get_or (take lines values) i false) (get_or-take g.pins g.pin j 0 h) ∙ get_or-take lines values (pin_at g j) false (law.named j h))

-- one step of the search for a line that is not at rest
settled : {A : Type 0} (a b : Bool) (x y : A) → a ≡ b → cond (same a b) x y ≡ x
settled true true x y h = refl
settled true false x y h = absurd (true≢false h)
settled false true x y h = absurd (false≢true h)
settled false false x y h = refl

unsettled : {A : Type 0} (a b : Bool) (x y : A) → (a ≡ b → ⊥) → cond (same a b) x y ≡ y
unsettled true true x y h = absurd (h refl)
unsettled true false x y h = refl
unsettled false true x y h = refl
unsettled false false x y h = absurd (h refl)

alike : {A : Type 0} {a a' b b' : Bool} {x x' : A} (y : A) → a ≡ a' → b ≡ b' → x ≡ x' → cond (same a b) x y ≡ cond (same a' b') x' y
alike y p q r = cc

found_none : (a b : Bool) (x : Option ℕ) (y : ℕ) → cond (same a b) x (Some y) ≡ None → (a ≡ b) × (x ≡ None)
found_none true true x y h = (refl, h)
found_none true false x y h = absurd (let z : ◌≡◌ {A = ℕ} 0 1 = cc in omega arith)
found_none false true x y h = absurd (let z : ◌≡◌ {A = ℕ} 0 1 = cc in omega arith)
found_none false false x y h = (refl, h)

module _ (inputs : ℕ) (gs : List Gate) (values : List Bool) where
  pub restless_more : (n k : ℕ) → k < n → Rests inputs gs values k → restless_from inputs gs values k (n - k) ≡ restless_from inputs gs values (k + 1) (n - (k + 1))
  restless_more n k h r = let e : n - k ≡ suc (n - (k + 1)) = omega arith in rw e (settled _ _ _ _ r)

  pub restless_here : (n k : ℕ) → k < n → (Rests inputs gs values k → ⊥) → restless_from inputs gs values k (n - k) ≡ Some (inputs + k)
  restless_here n k h r = let e : n - k ≡ suc (n - (k + 1)) = omega arith in rw e (unsettled _ _ _ _ r)

  -- gates at rest are passed
  rested : (n k : ℕ) → k ≤ n → ((i : ℕ) → i < k → Rests inputs gs values i) → restless_from inputs gs values 0 n ≡ restless_from inputs gs values k (n - k)
  rested n zero h r = ap (restless_from inputs gs values 0) (omega arith)
  rested n (suc k) h r =
      rested n k (omega arith) (λ i l. r i (omega arith)) ∙ restless_more n k (omega arith) (r k (omega arith))
      ∙ ap (λ (j : ℕ). restless_from inputs gs values j (n - j)) (add-one k)

  rests_from : (k left : ℕ) → restless_from inputs gs values k left ≡ None → (i : ℕ) → k ≤ i → i < k + left → Rests inputs gs values i
  rests_from k zero h i a b = absurd (omega arith)
  rests_from k (suc left) h i a b =
      let found = found_none _ _ _ _ h in
      elim (cases_eq k i) [ inl e ↦ subst (Rests inputs gs values) e found.0 | inr e ↦ rests_from (k + 1) left found.1 i (omega arith) (omega arith) ]

  none_from : (k left : ℕ) → ((i : ℕ) → k ≤ i → i < k + left → Rests inputs gs values i) → restless_from inputs gs values k left ≡ None
  none_from k zero h = refl
  none_from k (suc left) h = settled _ _ _ _ (h k (omega arith) (omega arith)) ∙ none_from (k + 1) left (λ i a b. h i (omega arith) (omega arith))

pub rest_from_restless : (n : Netlist) → restless n ≡ None → AtRest n
rest_from_restless n h k l = rests_from n.inputs n.gate n.start 0 n.gates h k (omega arith) (omega arith)

pub restless_from_rest : (n : Netlist) → AtRest n → restless n ≡ None
restless_from_rest n h = none_from n.inputs n.gate n.start 0 n.gates (λ i a b. h i (omega arith))

-- the lowest line that is not at rest is that of the first gate that is not
pub restless_found : (n : Netlist) (r : Option ℕ)
    → MatchOption r ((k : ℕ) → 0 ≤ k → k < n.gates → Rests n.inputs n.gate n.start k)
    (λ k. (0 ≤ k) × (k < n.gates) × (Rests n.inputs n.gate n.start k → ⊥) × ((i : ℕ) → 0 ≤ i → i < k → Rests n.inputs n.gate n.start i))
    → option_map (λ k. n.inputs + k) r ≡ restless n
restless_found n None rest = sym (restless_from_rest n (λ k l. rest k (omega arith) l))
restless_found n (Some k) (low, high, here, rest) =
    sym (rested n.inputs n.gate n.start n.gates k (omega arith) (λ i l. rest i (omega arith) l) ∙ restless_here n.inputs n.gate n.start n.gates k high here)

restless_trimmed_from : (inputs n : ℕ) (gs : List Gate) (values : List Bool) → ((k : ℕ) → k < n → LawfulGate (inputs + n) (gate_at gs k)) → (k left : ℕ) → k + left ≤ n → restless_from inputs (map trimmed_gate (take n gs)) (take (inputs + n) values) k left ≡ restless_from inputs gs values k left
restless_trimmed_from inputs n gs values law k zero h = refl
restless_trimmed_from inputs n gs values law k (suc left) h =
    let below : k < n = omega arith in
    let own : Bool = get_or (take (inputs + n) values) (inputs + k) false in
    let v : own ≡ get_or values (inputs + k) false = get_or-take (inputs + n) values (inputs + k) false (omega arith) in
    let d : driven_by (gate_at (map trimmed_gate (take n gs)) k) (take (inputs + n) values) own ≡ driven_by (gate_at gs k) values (get_or values (inputs + k) false)
    = ap (λ (g : Gate). driven_by g (take (inputs + n) values) own) (gate_at_trimmed gs n k below) ∙ driven_trimmed (inputs + n) (gate_at gs k) values own (law k below) ∙ ap (driven_by (gate_at gs k) values) v in
    let r = restless_trimmed_from inputs n gs values law (k + 1) left (omega arith) in
    alike (Some (inputs + k)) v d r

pub restless_trimmed : (n : Netlist) → Lawful n → restless (trimmed n) ≡ restless n
restless_trimmed n law = restless_trimmed_from n.inputs n.gates n.gate n.start law.gates_lawful 0 n.gates (omega arith)

-- a test past two guards
guarded : (a b c d : Bool) → (a ≡ true → b ≡ true → c ≡ d) → (a && (b && c)) ≡ (a && (b && d))
guarded true true c d h = h refl refl
guarded true false c d h = refl
guarded false b c d h = refl

pub sited_trimmed : (n : Netlist) (s : Site) → sited (trimmed n) s ≡ sited n s
sited_trimmed n (Stem line) = refl
sited_trimmed n (Pin line pin) =
    guarded _ _ _ _ (λ a b.
    let low = leb-true n.inputs line a in
    let high = ltb-true line (n.inputs + n.gates) b in
    ap (λ (g : Gate). ltb pin g.pins) (gate_at_trimmed n.gate n.gates (line - n.inputs) (omega arith)))
