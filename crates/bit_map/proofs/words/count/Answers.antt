use Rattle.std.proofs.Common.{◌∙◌, rules, arith}
use lib.Count.{ones}
use Rattle.std.proofs.lemmas.Iterator.{YieldsList-from_slice, YieldsList-from_map}
use Rattle.std.proofs.lemmas.Iterator.Consumers.{YieldsList-at, sum_by_from_yields_List, fits_by_from_yields_list}
use Rattle.fault_set.proofs.Tally.{tally_le}
use Rattle.bit_map.specs.Bits.{in_words}
use Rattle.bit_map.proofs.Rows.{held_tally, three_ones}
use Rattle.bit_map.proofs.words.count.Goals as goal

pub sum-requires-clause-fits : goal.sum-requires-clause-fits
sum-requires-clause-fits c =
    let ws = c.args.words.now in
    let e = held_tally ws (omega arith) (omega arith) (omega arith) in
    fits_by_from_yields_list ones ws c.map.result _
    (YieldsList-from_map _ ones (YieldsList-at c.map.ensures.source (YieldsList-from_slice ws c.iter.ensures.rest)) c.map.ensures.closure (λ x r q k. search rules))
    (omega (arith, e, three_ones ws (omega arith), tally_le (in_words ws) 192))

pub returns : goal.returns
returns c =
    let ws = c.args.words.now in
    sum_by_from_yields_List ones ws c.map.result _ c.sum.ensures.ran
    (YieldsList-from_map _ ones (YieldsList-at c.map.ensures.source (YieldsList-from_slice ws c.iter.ensures.rest)) c.map.ensures.closure (λ x r q k. search rules))
    ∙ three_ones ws (omega arith) ∙ held_tally ws (omega arith) (omega arith) (omega arith)

pub overflow_cast-result : goal.overflow_cast-result
overflow_cast-result c = let e = returns c in omega (arith, e, tally_le (in_words c.args.words.now) 192)
