-- The code's parts of a file, with each table cut to the places that it needs.
use Rattle.std.specs.Prelude.{◌≤◌, List, take, Some, None, Option}
use Rattle.circuit.specs.declared.netlist.Netlist.{Netlist}
use Rattle.circuit.specs.declared.site.Fault.{Fault}
use Rattle.circuit.specs.declared.site.FaultList.{FaultList}
use Rattle.circuit.specs.Netlists.{trimmed}
use Rattle.reader.specs.declared.parts.Parts.{Parts}

abbrev pub listed : FaultList → List Fault
listed list = take list.count list.fault

abbrev pub listed_in : Option FaultList → Option (List Fault)
listed_in None = None
listed_in (Some list) = Some (listed list)

abbrev pub parts_seen : Parts → Netlist × Option (List Fault)
parts_seen p = (trimmed p.netlist, listed_in p.faults)

-- a list of faults has room for all of them
abbrev pub Few : Option FaultList → Type 0
Few None = Unit {0}
Few (Some list) = list.count ≤ 192
