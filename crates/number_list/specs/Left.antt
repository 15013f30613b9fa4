-- What is left of a walk along a row.
use Rattle.std.specs.Prelude.{ℕ, List, ◌∷◌, cond, nat_lt}
use Rattle.rising.specs.Rows.{rise_at}
use Rattle.number_list.specs.declared.rise.Rise.{Rise}

-- the numbers that are still to come
abbrev pub left : Rise → List ℕ
left r = rise_at r.row.now r.at

-- the same, where the next has been taken out: 192 stands for none
abbrev pub ahead : ℕ → Rise → List ℕ
ahead next r = cond (nat_lt next 192) (next ∷ left r) (left r)
