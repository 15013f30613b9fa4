use Rattle.std.proofs.Common.{◌≡◌, ◌≤◌, ◌++◌, drop, string_bytes}
use Rattle.reply.specs.Replies.{counts_text, fault_lines}
use Rattle.reply.proofs.text.list.Given as goal

abbrev pub invariant-loop-n : goal.invariant-loop-n
invariant-loop-n l =
    (string_bytes l.text ≡ counts_text l.job.circuit.netlist l.job.faults.count ++ fault_lines l.job.faults.fault l.n-iterator.a.start)
    × (l.n-iterator.b.rest.now ≡ drop l.n-iterator.a.start l.job.faults.fault)
    × (l.n-iterator.a.start ≤ l.n-iterator.a.end)
    × (l.n-iterator.a.end ≡ l.job.faults.count)
