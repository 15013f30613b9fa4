-- The job that reading is lent to begin with.
use Rattle.std.specs.Prelude.{◌≡◌, false, [], ◌∷◌, take}
use Rattle.circuit.specs.declared.netlist.Netlist.{Netlist}
use Rattle.circuit.specs.declared.site.Site.TheVariants.{Stem}
use Rattle.circuit.specs.declared.site.FaultList.{FaultList}
use Rattle.circuit.specs.Netlists.{trimmed, buffer}

-- a buffer, and its input stuck at 0
pub record BuiltIn (n : Netlist) (list : FaultList) : Type 0 where
  pub netlist : trimmed n ≡ buffer
  pub faults : take list.count list.fault ≡ record { site = Stem 0; stuck = false } ∷ []
