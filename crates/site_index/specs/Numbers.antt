-- What is left of the numbers of one site.
use Rattle.std.specs.Prelude.{ℕ, List, [], Some, None, Option}
use Rattle.circuit.specs.declared.site.Fault.{Fault}
use Rattle.circuit.specs.declared.site.FaultList.{FaultList}
use Rattle.site_index.specs.declared.numbers.NumbersAt.{NumbersAt}
use Rattle.site_index.specs.Sites.{fault_of, numbers_from}

-- the numbers from one on whose fault sits where a fault sits
abbrev pub with_fault : FaultList → ℕ → Option Fault → List ℕ
with_fault list n None = []
with_fault list n (Some f) = numbers_from list f.site n

-- the numbers from one on whose fault sits where its fault sits
abbrev pub numbers_with : FaultList → Option ℕ → List ℕ
numbers_with list None = []
numbers_with list (Some n) = with_fault list n (fault_of list n)

-- what the iterator has left
abbrev pub numbers_left : NumbersAt → List ℕ
numbers_left it = numbers_with it.index.now.list it.next
