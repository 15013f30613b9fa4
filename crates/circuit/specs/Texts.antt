-- How sites and faults are printed.
use Rattle.std.specs.Prelude.{ℕ, cond, List, ◌++◌, codes, decimal}
use Rattle.circuit.specs.declared.site.Site.{Site}
use Rattle.circuit.specs.declared.site.Site.TheVariants.{Stem, Pin}
use Rattle.circuit.specs.declared.site.Fault.{Fault}

abbrev pub site_text : Site → List ℕ
site_text (Stem line) = codes "L" ++ decimal line
site_text (Pin line pin) = codes "L" ++ (decimal line ++ (codes "." ++ decimal pin))

abbrev pub fault_text : Fault → List ℕ
fault_text f = site_text f.site ++ (codes " " ++ cond f.stuck (codes "sa1") (codes "sa0"))
