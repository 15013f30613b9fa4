use Rattle.std.proofs.Common.{arith, rules}
use Rattle.track.proofs.table.Track.same.Goals as goal

-- the good answers are those of number 192, which is in no set
pub returns-else-self-other : goal.returns-else-self-other
returns-else-self-other g c =
    let x = g.met.S.FaultSet.within c.args.self.now.differ 192 (omega arith) in
    let y = g.met.S.FaultSet.within c.args.other.now.differ 192 (omega arith) in
    (search rules, λ h. let e = h 192 in search rules)
