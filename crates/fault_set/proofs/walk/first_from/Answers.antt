use Rattle.std.proofs.Common.{◌<◌, ◌≤◌, ⊎_elim, arith}
use Rattle.std.proofs.lemmas.Bool.{cases_lt, lt-ltb, le-ltb}
use Rattle.fault_set.proofs.Walked.{left_none, left_first}
use Rattle.fault_set.proofs.walk.first_from.Goals as goal

pub returns : goal.returns
returns g c =
    let m = g.S.FaultSet.member c.args.set.now in
    let next = c.next_after-m.ensures in
    ⊎_elim
    (λ (l : c.next_after-m.result < 192).
    let found = next.found l in
    rw (c.then_some.ensures, lt-ltb c.next_after-m.result 192 l) (l, left_first m c.args.n c.next_after-m.result 192 found.0 l found.1 next.least))
    (λ (h : 192 ≤ c.next_after-m.result).
    rw (c.then_some.ensures, le-ltb c.next_after-m.result 192 h) (left_none m c.args.n 192 (λ k p q. next.least k p (omega arith))))
    (cases_lt c.next_after-m.result 192)
