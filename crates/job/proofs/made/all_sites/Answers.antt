use Rattle.std.proofs.Common.{◌+◌, ◌-◌, ◌<◌, ◌≤◌, ◌++◌, ◌∷◌, ◌≡◌, ℕ, List, length, drop, ap, ◌∙◌, sym, subst, inl, inr, append_assoc, add-one, rules, arith}
use Rattle.std.proofs.lemmas.List.{length-drop, drop_more}
use Rattle.circuit.specs.declared.gate.Gate.{Gate}
use Rattle.circuit.specs.declared.netlist.Netlist.{Netlist}
use Rattle.circuit.specs.declared.site.Fault.{Fault}
use Rattle.circuit.specs.Netlists.{gate_at, no_gate, Lawful}
use Rattle.format.specs.Descriptions.{stems, gate_pins, pins_of, made}
use Rattle.job.specs.declared.made.Making.{Making}
use Rattle.job.specs.Making.{Holds}
use Rattle.job.proofs.made.all_sites.Goals as goal

-- a walk over the gates that came to the one on a line takes this gate, and leaves those after it
module _ (n : Netlist) (start : ℕ) (from : n.inputs ≤ start) where
  taken : (left : List Gate) (g : Gate) → g ∷ left ≡ drop (start - n.inputs) n.gate → (g ≡ gate_at n.gate (start - n.inputs)) × (left ≡ drop (start + 1 - n.inputs) n.gate)
  taken left g e =
      let k : ℕ = start - n.inputs in
      let long : length (g ∷ left) ≡ length n.gate - k = ap (λ (s : List Gate). length s) e ∙ length-drop k n.gate in
      let whole : g ∷ left ≡ gate_at n.gate k ∷ drop (k + 1) n.gate = e ∙ drop_more n.gate k no_gate (omega arith) in
      let next : k + 1 ≡ start + 1 - n.inputs = omega arith in
      (ap (λ (s : List Gate). gate_at s 0) whole, ap (λ (s : List Gate). drop 1 s) whole ∙ ap (λ (i : ℕ). drop i n.gate) next)

  few : (g : Gate) → Lawful n → start < n.inputs + n.gates → g ≡ gate_at n.gate (start - n.inputs) → g.pins ≤ 8
  few g lawful l is = subst (λ (g : Gate). g.pins ≤ 8) (sym is) (lawful.gates_lawful (start - n.inputs) (omega arith)).pins_few

  more : (head : List Fault) (m m' : Making) (line : ℕ) (g : Gate) → line ≡ start → g ≡ gate_at n.gate (start - n.inputs) → Holds m (head ++ gate_pins n.inputs n.gate (start - n.inputs))
      → ((l : List Fault) → Holds m l → Holds m' (l ++ pins_of line g.pins)) → Holds m' (head ++ gate_pins n.inputs n.gate (start + 1 - n.inputs))
  more head m m' line g at is h grow =
      let k : ℕ = start - n.inputs in
      let next : start + 1 - n.inputs ≡ k + 1 = omega arith in
      let here : line ≡ n.inputs + k = omega arith in
      rw (next, add-one k, ← append_assoc, ← is, ← here) (grow (head ++ gate_pins n.inputs n.gate k) h)

-- a walk that finds no gate left came past the last one
spent : (gates : List Gate) (k count : ℕ) → count ≤ length gates → length (drop k gates) ≡ 0 → count ≤ k
spent gates k count room none = let left : length (drop k gates) ≡ length gates - k = length-drop k gates in omega arith

pub add_pins-requires : goal.add_pins-requires
add_pins-requires c =
    let n = c.args.design.now.netlist in
    let at : ℕ = c.loop-line-2.line-iterator.a.start in
    let step : c.in-Some.gate.now ∷ c.next.new.self.b.rest.now ≡ c.loop-line-2.line-iterator.b.rest.now = search rules in
    let below : at < c.loop-line-2.line-iterator.a.end = search rules in
    let got = taken n at c.loop-line-2.invariant.from _ _ (step ∙ c.loop-line-2.invariant.left) in
    (omega arith, few n at c.loop-line-2.invariant.from _ c.args.design.now.lawful (omega arith) got.0)

pub loop-line-2-preserved : goal.loop-line-2-preserved
loop-line-2-preserved c =
    let n = c.args.design.now.netlist in
    let at : ℕ = c.loop-line-2.line-iterator.a.start in
    let step : c.in-Some.gate.now ∷ c.next.new.self.b.rest.now ≡ c.loop-line-2.line-iterator.b.rest.now = search rules in
    let on : c.next.new.self.a.start ≡ at + 1 = search rules in
    let here : c.in-Some.line ≡ at = search rules in
    let below : at < c.loop-line-2.line-iterator.a.end = search rules in
    let end : c.next.new.self.a.end ≡ c.loop-line-2.line-iterator.a.end = search rules in
    let got = taken n at c.loop-line-2.invariant.from _ _ (step ∙ c.loop-line-2.invariant.left) in
    let pins : c.in-Some.gate.now.pins ≤ 8 = few n at c.loop-line-2.invariant.from _ c.args.design.now.lawful (omega arith) got.0 in
    rw on record {
      from = omega arith;
      upto = omega arith;
      end = end ∙ c.loop-line-2.invariant.end;
      left = got.1;
      few = omega arith;
      holds = more n at c.loop-line-2.invariant.from _ _ _ _ _ here got.0 c.loop-line-2.invariant.holds c.add_pins.ensures.holds;
    }

pub returns : goal.returns
unfolding made
returns c =
    let n = c.args.design.now.netlist in
    let k : ℕ = c.loop-line-2.line-iterator.a.start - n.inputs in
    let room : n.gates ≤ length n.gate = search rules in
    let all : k ≡ n.gates = elim c.in-None.ensures.steps as (λ _. k ≡ n.gates) [ inl h ↦ search rules | inr h ↦ (let past : n.gates ≤ k = spent n.gate k n.gates room (sym (ap (λ (s : List Gate). length s) c.loop-line-2.invariant.left) ∙ h.1.0) in omega arith) ] in
    subst (λ (i : ℕ). Holds c.loop-line-2.making (stems (n.inputs + n.gates) ++ gate_pins n.inputs n.gate i)) all c.loop-line-2.invariant.holds
