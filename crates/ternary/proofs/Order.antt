-- Laws of 'lies within'.
use mathlib.Core.Path.{◌≡◌, refl, subst}
use mathlib.Core.Bool.{Bool, true, false, not, ◌&&◌, ◌||◌}
use Rattle.ternary.specs.declared.Value.{Value}
use Rattle.ternary.specs.declared.Value.TheVariants.{Zero, One, Two}
use Rattle.ternary.specs.Values.{of, ◌⊑◌, same, unsettled, not₃, and₃, or₃, join}

pub ⊑_trans : {u v w : Value} → u ⊑ v → v ⊑ w → u ⊑ w
⊑_trans a same = a
⊑_trans a unsettled = unsettled

two_within : {v : Value} → Two ⊑ v → v ≡ Two
two_within same = refl
two_within unsettled = refl

pub ⊑_antisym : {v w : Value} → v ⊑ w → w ⊑ v → v ≡ w
⊑_antisym same h = refl
⊑_antisym unsettled h = two_within h

pub ⊑-of-≡ : {v w : Value} → v ≡ w → v ⊑ w
⊑-of-≡ {v} e = subst (λ x. v ⊑ x) e same

-- a function keeps the order if all its values lie within the one at 2
keeps_order : (f : Value → Value) → ((v : Value) → f v ⊑ f Two) → {v w : Value} → v ⊑ w → f v ⊑ f w
keeps_order f top same = same
keeps_order f top (unsettled {v = v}) = top v

pub not_mono : {v w : Value} → v ⊑ w → not₃ v ⊑ not₃ w
not_mono = keeps_order not₃ (λ v. unsettled)

and_first : (w v : Value) → and₃ v w ⊑ and₃ Two w
and_first Zero Zero = same
and_first Zero One = same
and_first Zero Two = same
and_first One v = unsettled
and_first Two v = unsettled

and_second : (v w : Value) → and₃ v w ⊑ and₃ v Two
and_second Zero w = same
and_second One w = unsettled
and_second Two w = unsettled

or_first : (w v : Value) → or₃ v w ⊑ or₃ Two w
or_first One Zero = same
or_first One One = same
or_first One Two = same
or_first Zero v = unsettled
or_first Two v = unsettled

or_second : (v w : Value) → or₃ v w ⊑ or₃ v Two
or_second Zero w = unsettled
or_second One w = same
or_second Two w = unsettled

pub and_mono : {a b v w : Value} → a ⊑ b → v ⊑ w → and₃ a v ⊑ and₃ b w
and_mono {b} {v} h k = ⊑_trans (keeps_order (λ x. and₃ x v) (and_first v) h) (keeps_order (and₃ b) (and_second b) k)

pub or_mono : {a b v w : Value} → a ⊑ b → v ⊑ w → or₃ a v ⊑ or₃ b w
or_mono {b} {v} h k = ⊑_trans (keeps_order (λ x. or₃ x v) (or_first v) h) (keeps_order (or₃ b) (or_second b) k)

-- on settled values the three are those of truth values
pub of_not : (a : Bool) → of (not a) ≡ not₃ (of a)
of_not true = refl
of_not false = refl

pub of_and : (a b : Bool) → of (a && b) ≡ and₃ (of a) (of b)
of_and true b = refl
of_and false b = refl

pub of_or : (a b : Bool) → of (a || b) ≡ or₃ (of a) (of b)
of_or true b = refl
of_or false b = refl

-- what lies within a settled value is that value
pub of_within : (a b : Bool) → of a ⊑ of b → a ≡ b
of_within true true h = refl
of_within false false h = refl
of_within true false h = elim h [ ]
of_within false true h = elim h [ ]

pub join_left : (v w : Value) → v ⊑ join v w
join_left Zero Zero = same
join_left Zero One = unsettled
join_left Zero Two = unsettled
join_left One Zero = unsettled
join_left One One = same
join_left One Two = unsettled
join_left Two w = same

pub join_right : (v w : Value) → w ⊑ join v w
join_right Zero Zero = same
join_right Zero One = unsettled
join_right Zero Two = unsettled
join_right One Zero = unsettled
join_right One One = same
join_right One Two = unsettled
join_right Two w = unsettled
