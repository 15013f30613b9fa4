use Rattle.std.proofs.Common.{◌≤◌, length, take, ◌∙◌, rules, tests}
use Rattle.std.proofs.lemmas.Iterator.{YieldsList-from_slice}
use Rattle.std.proofs.lemmas.Iterator.Search.{any_from_yields_List}
use Rattle.phases.specs.Reads.{changed_at}
use Rattle.phases.proofs.Pins.{pins_any}
use Rattle.phases.proofs.changes.Changes.read_by_pins.Goals as goal

pub returns : goal.returns
returns c =
    let room : c.args.gate.now.pins ≤ length c.args.gate.now.pin = search rules in
    any_from_yields_List (changed_at c.args.self.now.line) _ _ _ c.any.ensures.ran (YieldsList-from_slice (take c.args.gate.now.pins c.args.gate.now.pin) (search rules)) (λ x b q k. search (rules, tests))
    ∙ pins_any (changed_at c.args.self.now.line) c.args.gate.now c.args.gate.now.pins room
