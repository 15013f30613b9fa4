use Rattle.std.proofs.Common.{◌≡◌, ℕ, ◌+◌, option_map, ◌∙◌, rules}
use Rattle.std.proofs.lemmas.Iterator.{first_from_Range}
use Rattle.circuit.specs.Netlists.{Rests}
use Rattle.circuit.proofs.Trimmed.{restless_found}
use Rattle.circuit.proofs.design.Design.first_restless.Goals as goal

pub returns : goal.returns
returns c =
    let netlist = c.args.self.now.netlist in
    let rests : ℕ → Type 0 = Rests netlist.inputs netlist.gate netlist.start in
    let mapped : c.map.result ≡ option_map (λ k. netlist.inputs + k) c.find.result = search rules in
    mapped ∙ restless_found netlist c.find.result (first_from_Range _ _ _ _ (λ k. rests k → ⊥) rests c.find.ensures.ran (λ k q called. search rules) (λ k q called. search rules))
