use Rattle.std.proofs.Common.{ℕ, ◌<◌, ◌^◌, List, get_or, ap, arith}
use Rattle.std.proofs.lemmas.Bool.Decides.{Decides-eqb}
use Rattle.std.proofs.lemmas.Slice.Eq.{slice_eq-Decides}
use Rattle.bit_map.specs.Bits.{in_words}
use Rattle.bit_map.proofs.Rows.{each_word, words_same}
use Rattle.bit_map.proofs.words.alike.Goals as goal

pub returns : goal.returns
returns c =
    let ws = c.args.left.now in
    let vs = c.args.right.now in
    let equal = slice_eq-Decides Decides-eqb ws vs c.eq.result c.eq.ensures in
    let w = each_word (λ (i : ℕ). get_or ws i 0 < 2 ^ 64) (omega arith) (omega arith) (omega arith) in
    let v = each_word (λ (i : ℕ). get_or vs i 0 < 2 ^ 64) (omega arith) (omega arith) (omega arith) in
    (λ t k. ap (λ (xs : List ℕ). in_words xs k) (equal.0 t), λ e. equal.1 (words_same ws vs (omega arith) (omega arith) w v e))
