use Rattle.std.proofs.Common.{◌≡◌, ◌∙◌, length, arith}
use Rattle.std.proofs.lemmas.Iterator.Consumers.{YieldsList-from_first, count_from_yields_List}
use Rattle.rising.proofs.Held.{length_held}
use Rattle.rising.proofs.Rising.{reach_tally}
use Rattle.number_list.specs.Left.{left}
use Rattle.number_list.proofs.numbers.Numbers.count.Goals as goal

pub returns : goal.returns
returns c =
    let long : length c.args.self.now.at ≡ 192 = omega arith in
    count_from_yields_List c.numbers.result c.count.result c.count.ensures.ran (YieldsList-from_first (λ x. x) left _ c.numbers.ensures)
    ∙ length_held c.args.self.now.at c.args.self.now.len long
    ∙ reach_tally c.args.self.now.at c.args.self.now.len
