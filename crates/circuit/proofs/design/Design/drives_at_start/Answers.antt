use Rattle.std.proofs.Common.{rules}
use Rattle.circuit.specs.Netlists.{gate_at, pins_of}
use Rattle.circuit.proofs.design.Design.drives_at_start.Goals as goal

pub returns : goal.returns
returns c =
    let netlist = c.args.self.now.netlist in
    c.drives.ensures 0 (pins_of (gate_at netlist.gate c.args.k) netlist.start) (λ j lt r e. search rules)
