-- Relations between two logics that their constants, AND, OR and NOT keep.
use mathlib.Core.Path.{◌≡◌, refl, ap, ap₂, ◌∙◌}
use mathlib.Core.Bool.{Bool, true, false}
use Rattle.ternary.specs.declared.Value.{Value}
use Rattle.ternary.specs.declared.Value.TheVariants.{Zero, One, Two}
use Rattle.ternary.specs.Values.{of, ◌⊑◌, same, not₃, and₃, or₃}
use Rattle.ternary.specs.Logics.{Logic, two_valued, three_valued, tracks, by_tracks}
use Rattle.ternary.proofs.Order.{not_mono, and_mono, or_mono, of_not, of_and, of_or}

pub record Keeps {A B : Type 0} (L : Logic A) (M : Logic B) (R : A → B → Type 0) : Type 0 where
  pub const : (b : Bool) → R (L.const b) (M.const b)
  pub both : {a a' : A} {b b' : B} → R a b → R a' b' → R (L.both a a') (M.both b b')
  pub either : {a a' : A} {b b' : B} → R a b → R a' b' → R (L.either a a') (M.either b b')
  pub invert : {a : A} {b : B} → R a b → R (L.invert a) (M.invert b)

-- being equal, in any logic
pub equal_kept : {A : Type 0} (L : Logic A) → Keeps L L (λ (a b : A). a ≡ b)
equal_kept L = record { const = λ b. refl; both = λ h k. ap₂ L.both h k; either = λ h k. ap₂ L.either h k; invert = λ h. ap L.invert h }

-- lying within
pub order_kept : Keeps three_valued three_valued ◌⊑◌
order_kept = record { const = λ b. same; both = and_mono; either = or_mono; invert = not_mono }

-- a truth value that lies within a value
pub cover_kept : Keeps two_valued three_valued (λ b v. of b ⊑ v)
cover_kept = record {
  const = λ b. same;
  both = λ {a} {a'} h k. rw of_and (and_mono h k);
  either = λ {a} {a'} h k. rw of_or (or_mono h k);
  invert = λ {a} h. rw of_not (not_mono h);
}

-- a truth value that is a value
pub exact_kept : Keeps two_valued three_valued (λ b v. of b ≡ v)
exact_kept = record {
  const = λ b. refl;
  both = λ {a} {a'} h k. of_and a a' ∙ ap₂ and₃ h k;
  either = λ {a} {a'} h k. of_or a a' ∙ ap₂ or₃ h k;
  invert = λ {a} h. of_not a ∙ ap not₃ h;
}

const_tracks : (b : Bool) → by_tracks.const b ≡ tracks (of b)
const_tracks true = refl
const_tracks false = refl

and_tracks : (v w : Value) → by_tracks.both (tracks v) (tracks w) ≡ tracks (and₃ v w)
and_tracks Zero w = refl
and_tracks One Zero = refl
and_tracks One One = refl
and_tracks One Two = refl
and_tracks Two Zero = refl
and_tracks Two One = refl
and_tracks Two Two = refl

or_tracks : (v w : Value) → by_tracks.either (tracks v) (tracks w) ≡ tracks (or₃ v w)
or_tracks One w = refl
or_tracks Zero Zero = refl
or_tracks Zero One = refl
or_tracks Zero Two = refl
or_tracks Two Zero = refl
or_tracks Two One = refl
or_tracks Two Two = refl

not_tracks : (v : Value) → by_tracks.invert (tracks v) ≡ tracks (not₃ v)
not_tracks Zero = refl
not_tracks One = refl
not_tracks Two = refl

-- being the tracks of a value
pub tracks_kept : Keeps by_tracks three_valued (λ t v. t ≡ tracks v)
tracks_kept = record {
  const = const_tracks;
  both = λ {b} {b'} h k. ap₂ by_tracks.both h k ∙ and_tracks b b';
  either = λ {b} {b'} h k. ap₂ by_tracks.either h k ∙ or_tracks b b';
  invert = λ {b} h. ap by_tracks.invert h ∙ not_tracks b;
}
