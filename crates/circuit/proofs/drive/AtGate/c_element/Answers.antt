use Rattle.std.proofs.Common.{add-one}
use Rattle.circuit.proofs.drive.AtGate.c_element.Goals as goal

pub loop-j-preserved : goal.loop-j-preserved
loop-j-preserved g c = λ n pin sees.
    let part = c.literal-part.ensures n pin sees in
    let every = c.and_in.ensures n in
    let kept = c.and_in-in-loop-j.ensures n in
    let held = c.or_in.ensures n in
    let before = c.loop-j.invariant n pin sees in
    rw (add-one c.loop-j.j) (cc, cc)
