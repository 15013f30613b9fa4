-- What the pins of a gate read.
use Rattle.std.specs.Prelude.{ℕ, Bool, List}
use Rattle.ternary.specs.Logics.{Tracks as Pair, by_tracks}
use Rattle.circuit.specs.declared.netlist.Netlist.{Netlist}
use Rattle.circuit.specs.declared.site.FaultList.{FaultList}
use Rattle.circuit.specs.Chips.{pin_sees}
use Rattle.track.specs.declared.table.Line.{Line}
use Rattle.site_index.specs.Sites.{fault_of}
use Rattle.step.specs.Rows.{held_at}

-- what pin j of gate k reads in circuit n, by tracks, before any inversion
unfoldable pub pin_reads : {S : Type 0} → (S → ℕ → Bool) → Netlist → FaultList → List (Line S) → ℕ → ℕ → ℕ → Pair
pin_reads member netlist list lines n k j = pin_sees by_tracks netlist (fault_of list n) (held_at member lines n) k j
