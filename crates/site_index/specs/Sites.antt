-- The faults of a list by number and by site.
use Rattle.std.specs.Prelude.{◌≡◌, ℕ, ◌+◌, ◌-◌, ◌*◌, ◌≤◌, Bool, true, false, cond, ◌&&◌, List, Some, None, Option, is_some, nat_lt, slice_index_or}
use Rattle.std.specs.List.{filter, range_with_len, slice_get}
use Rattle.circuit.specs.declared.site.Site.{Site}
use Rattle.circuit.specs.declared.site.Site.TheVariants.{Stem, Pin}
use Rattle.circuit.specs.declared.site.Fault.{Fault}
use Rattle.circuit.specs.declared.site.FaultList.{FaultList}
use Rattle.circuit.specs.Netlists.{fault_at}
use Rattle.circuit.specs.Chips.{same_site}

-- fault number n, if the list has one: it has as many as it says, and never more than 192
unfoldable pub fault_of : FaultList → ℕ → Option Fault
fault_of list n = cond (nat_lt n 192 && nat_lt n list.count) (Some (fault_at list.fault n)) None

-- whether there is a fault and it sits at the site
abbrev pub sits_at : Site → Option Fault → Bool
sits_at s None = false
sits_at s (Some f) = same_site f.site s

-- whether the table of firsts has a place for a site: it has 48 lines, and 8 pins for each
abbrev pub on_table : Site → Bool
on_table (Stem line) = nat_lt line 48
on_table (Pin line pin) = nat_lt line 48 && nat_lt pin 8

-- that place
abbrev pub place : Site → ℕ
place (Stem line) = line
place (Pin line pin) = 48 + line * 8 + pin

-- that of a fault, if it has one
abbrev pub place_of : Option Fault → Option ℕ
place_of None = None
place_of (Some f) = cond (on_table f.site) (Some (place f.site)) None

-- the numbers from one on whose fault sits at the site, in rising order: there are no faults past number 191
unfoldable pub numbers_from : FaultList → Site → ℕ → List ℕ
numbers_from list s from = filter (λ n. sits_at s (fault_of list n)) (range_with_len from (192 - from))

-- whether a number, if there is one, has a fault with a place
abbrev pub placed_number : FaultList → Option ℕ → Bool
placed_number list None = true
placed_number list (Some n) = is_some (place_of (fault_of list n))

-- the tables are right from a number on: they hold the first of these numbers, if there is one
abbrev pub Firsts : FaultList → ℕ → List (Option ℕ) → Type 0
Firsts list from first = (s : Site) → on_table s ≡ true → slice_index_or first (place s) None ≡ slice_get (numbers_from list s from) 0

abbrev pub Nexts : FaultList → ℕ → List (Option ℕ) → Type 0
Nexts list from next = (n : ℕ) (s : Site) → (from ≤ n) × (on_table s ≡ true) × (sits_at s (fault_of list n) ≡ true) → slice_index_or next n None ≡ slice_get (numbers_from list s (n + 1)) 0
