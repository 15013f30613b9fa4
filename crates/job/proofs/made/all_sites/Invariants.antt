use Rattle.std.proofs.Common.{◌≡◌, ◌+◌, ◌-◌, ◌*◌, ◌≤◌, ◌++◌, drop}
use Rattle.format.specs.Descriptions.{stems, gate_pins}
use Rattle.job.specs.Making.{Holds}
use Rattle.job.proofs.made.all_sites.Given as goal

abbrev pub invariant-loop-line : goal.invariant-loop-line
invariant-loop-line l = (l.making.length ≡ 2 * l.line) × Holds l.making (stems l.line)

abbrev pub invariant-loop-line-2 : goal.invariant-loop-line-2
invariant-loop-line-2 l = record {
  from : l.design.netlist.inputs ≤ l.line-iterator.a.start;
  upto : l.line-iterator.a.start ≤ l.line-iterator.a.end;
  end : l.line-iterator.a.end ≡ l.design.netlist.inputs + l.design.netlist.gates;
  left : l.line-iterator.b.rest.now ≡ drop (l.line-iterator.a.start - l.design.netlist.inputs) l.design.netlist.gate;
  few : l.making.length ≤ 96 + 16 * (l.line-iterator.a.start - l.design.netlist.inputs);
  holds : Holds l.making (stems (l.design.netlist.inputs + l.design.netlist.gates) ++ gate_pins l.design.netlist.inputs l.design.netlist.gate (l.line-iterator.a.start - l.design.netlist.inputs));
}
