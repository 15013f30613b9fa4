use Rattle.std.proofs.Common.{rules}
use Rattle.ternary.specs.Logics.{three_valued}
use Rattle.circuit.specs.Chips.{value_at, pin_sees}
use Rattle.circuit.proofs.circuit.Circuit.drives_beside.Goals as goal

pub returns : goal.returns
returns c =
    c.drives.ensures 0 (pin_sees three_valued c.args.self.now.netlist c.args.fault (value_at c.args.lines.now) c.args.k) (λ j lt r e. search rules)
