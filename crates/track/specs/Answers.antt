-- What tracks say of each circuit. Numbers stand for faulty circuits; one that is in no set, as any above 191, has the good circuit's answers.
use Rattle.std.specs.Prelude.{ℕ, Bool, true, false, not, ◌||◌}
use Rattle.ternary.specs.declared.Value.{Value}
use Rattle.ternary.specs.declared.Value.TheVariants.{Zero, One, Two}
use Rattle.ternary.specs.Logics.{Tracks as Pair}
use Rattle.track.specs.declared.table.Track.{Track}
use Rattle.track.specs.declared.table.Tracks.{Tracks}

-- one answer, or the other where a circuit differs
abbrev pub unless : Bool → Bool → Bool
unless true differs = not differs
unless false differs = differs

-- the answer of circuit n: the good one, unless n is in the set
abbrev pub answer : {S : Type 0} → (S → ℕ → Bool) → Track S → ℕ → Bool
answer member t n = unless t.good (member t.differ n)

-- whether its line may be 1, and whether it may be 0
abbrev pub answers : {S : Type 0} → (S → ℕ → Bool) → Tracks S → ℕ → Pair
answers member ts n = record { may_be_1 = answer member ts.one n; may_be_0 = answer member ts.zero n }

-- the same in the good circuit
abbrev pub goods : {S : Type 0} → Tracks S → Pair
goods ts = record { may_be_1 = ts.one.good; may_be_0 = ts.zero.good }

-- neither is read as both
abbrev pub whole : Pair → Pair
whole p = record { may_be_1 = p.may_be_1 || not p.may_be_0; may_be_0 = p.may_be_0 || not p.may_be_1 }

abbrev pub meaning : Bool → Bool → Value
meaning true false = One
meaning false true = Zero
meaning true true = Two
meaning false false = Two

-- the value that two answers mean
abbrev pub value : Pair → Value
value p = meaning p.may_be_1 p.may_be_0

-- may be what either may be
abbrev pub joined : Pair → Pair → Pair
joined p q = record { may_be_1 = p.may_be_1 || q.may_be_1; may_be_0 = p.may_be_0 || q.may_be_0 }
