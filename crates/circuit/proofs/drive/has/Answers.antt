use Rattle.std.proofs.Common.{◌≡◌, ℕ, ◌/◌, ◌%◌, ◌^◌, ◌≤◌, ◌==◌, sym, ap, ◌∙◌, arith, le-ltb}
use Rattle.std.proofs.Math.Nat.{div-eq_of_lt}
use Rattle.std.proofs.Math.Pow.{pow_mono}
use Rattle.circuit.proofs.drive.has.Goals as goal

pub returns-else-j-lt8 : goal.returns-else-j-lt8
returns-else-j-lt8 c =
    let past : 2 ^ 8 ≤ 2 ^ c.args.j = pow_mono c.if-j-lt8.false in
    let none : c.args.mask / 2 ^ c.args.j ≡ 0 = div-eq_of_lt (omega (arith, past, c.ranges.mask.fits)) in
    le-ltb c.args.j 8 c.if-j-lt8.false ∙ sym (ap (λ (n : ℕ). n % 2 == 1) none)
