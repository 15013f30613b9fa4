-- A job as a person writes it down, and when it is lawful.
use Rattle.std.specs.Prelude.{◌≡◌, ℕ, zero, suc, ◌+◌, ◌<◌, ◌≤◌, true, false, List, [], ◌∷◌, ◌++◌, length}
use Rattle.circuit.specs.declared.gate.Function.{Function}
use Rattle.circuit.specs.declared.gate.Function.TheVariants.{Complex, CElement}
use Rattle.circuit.specs.declared.gate.Gate.{Gate}
use Rattle.circuit.specs.declared.netlist.Netlist.{Netlist}
use Rattle.circuit.specs.declared.site.Site.{Site}
use Rattle.circuit.specs.declared.site.Site.TheVariants.{Stem, Pin}
use Rattle.circuit.specs.declared.site.Fault.{Fault}
use Rattle.circuit.specs.Netlists.{gate_at, fault_at, sited, Lawful, AtRest}

-- a netlist, and the faults to grade, numbered from 0
pub record Description : Type 0 where
  pub netlist : Netlist
  pub faults : List Fault

-- each table has as many places as its count says
abbrev pub ExactFunction : Function → Type 0
ExactFunction (Complex s) = (length s.used ≡ s.products) × (length s.inverted ≡ s.products)
ExactFunction (CElement inverted) = Unit {0}

pub record ExactGate (g : Gate) : Type 0 where
  pub pins : length g.pin ≡ g.pins
  pub function : ExactFunction g.function

pub record Exact (n : Netlist) : Type 0 where
  pub gates : length n.gate ≡ n.gates
  pub each : (k : ℕ) → k < n.gates → ExactGate (gate_at n.gate k)
  pub outputs : length n.output ≡ n.outputs
  pub start : length n.start ≡ n.inputs + n.gates

-- a lawful job: a lawful netlist whose start is at rest, and 1 to 192 faults on sites that it has
pub record LawfulJob (d : Description) : Type 0 where
  pub exact : Exact d.netlist
  pub lawful : Lawful d.netlist
  pub rest : AtRest d.netlist
  pub faults_some : 0 < length d.faults
  pub faults_few : length d.faults ≤ 192
  pub faults_sited : (n : ℕ) → n < length d.faults → sited d.netlist (fault_at d.faults n).site ≡ true

-- both stuck values of a site, 0 before 1
abbrev pub both_stuck : Site → List Fault
both_stuck site = record { site = site; stuck = false } ∷ record { site = site; stuck = true } ∷ []

-- the faults of the first lines
abbrev pub stems : ℕ → List Fault
stems zero = []
stems (suc line) = stems line ++ both_stuck (Stem line)

-- the faults of the first pins of the gate on a line
abbrev pub pins_of : ℕ → ℕ → List Fault
pins_of line zero = []
pins_of line (suc pin) = pins_of line pin ++ both_stuck (Pin line pin)

-- the faults of the pins of the first gates
abbrev pub gate_pins : ℕ → List Gate → ℕ → List Fault
gate_pins inputs gates zero = []
gate_pins inputs gates (suc k) = gate_pins inputs gates k ++ pins_of (inputs + k) (gate_at gates k).pins

-- the list that is made where a job names no faults: every line, then every pin by gate
unfoldable pub made : Netlist → List Fault
made n = stems (n.inputs + n.gates) ++ gate_pins n.inputs n.gate n.gates
