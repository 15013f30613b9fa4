use Rattle.std.proofs.Common.{◌≡◌, ℕ, List, ◌∙◌, sym, ap, length, arith}
use Rattle.std.proofs.lemmas.Iterator.Consumers.{YieldsList-from_first}
use Rattle.rising.proofs.Held.{has, held_has, same_held, eq_walks}
use Rattle.number_list.specs.Left.{left}
use Rattle.number_list.proofs.numbers.Numbers.same.Goals as goal

pub returns : goal.returns
returns c =
    let a : length c.args.self.now.at ≡ 192 = omega arith in
    let b : length c.args.other.now.at ≡ 192 = omega arith in
    let same = eq_walks (λ x it. it ≡ x) c.numbers-2.result c.eq.result c.eq.ensures.ran (YieldsList-from_first (λ x. x) left _ c.numbers.ensures) (λ it e. YieldsList-from_first (λ x. x) left _ (ap left e ∙ c.numbers-2.ensures)) in (
      λ t k. held_has c.args.self.now.at c.args.self.now.len a k
          ∙ ap (λ (xs : List ℕ). has xs k) (same.0 t)
          ∙ sym (held_has c.args.other.now.at c.args.other.now.len b k),
      λ h. same.1 (same_held c.args.self.now.at c.args.self.now.len c.args.other.now.at c.args.other.now.len a b h),
    )
