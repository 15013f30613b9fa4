-- The values of a line: 0, 1, and 2 for a line that has not settled.
use Rattle.std.specs.Prelude.{Bool, true, false}
use Rattle.ternary.specs.declared.Value.{Value}
use Rattle.ternary.specs.declared.Value.TheVariants.{Zero, One, Two}

-- a settled value
abbrev pub of : Bool → Value
of true = One
of false = Zero

-- v ⊑ w, v lies within w: they are the same, or w is unsettled
infix 40 ◌⊑◌
pub data ◌⊑◌ : Value → Value → Type 0 where
  same : {v : Value} → v ⊑ v
  unsettled : {v : Value} → v ⊑ Two

-- AND is 0 if a part is 0, 1 if all are 1, else 2
abbrev pub and₃ : Value → Value → Value
and₃ Zero w = Zero
and₃ One w = w
and₃ Two Zero = Zero
and₃ Two One = Two
and₃ Two Two = Two

-- OR is the same with 0 and 1 exchanged
abbrev pub or₃ : Value → Value → Value
or₃ One w = One
or₃ Zero w = w
or₃ Two One = One
or₃ Two Zero = Two
or₃ Two Two = Two

-- NOT keeps 2
abbrev pub not₃ : Value → Value
not₃ Zero = One
not₃ One = Zero
not₃ Two = Two

-- the least value within which both lie: v if w is the same, else 2
abbrev pub join : Value → Value → Value
join Zero Zero = Zero
join Zero One = Two
join Zero Two = Two
join One Zero = Two
join One One = One
join One Two = Two
join Two w = Two
