-- What a circuit says of lists goes through a gate.
use Rattle.std.proofs.Common.{◌≡◌, ℕ, Bool, true, false, ◌&&◌, ◌||◌, [], ◌∷◌, refl, ap, ◌∙◌, ap₂}
use Rattle.ternary.specs.Logics.{Tracks as Pair, by_tracks}
use Rattle.ternary.proofs.Keeps.{Keeps}
use Rattle.circuit.proofs.Kept.{driven_keeps}
use Rattle.track.specs.Rules.{Part, says, all_of, any_of}
use Rattle.track.proofs.Folds.{rules_fold}
use Rattle.worked.specs.Lists.{Parts, by_lists, says_both, ListsThroughAGate}

and_last : (a b : Bool) → (a && (b && true)) ≡ (a && b)
and_last a true = refl
and_last a false = refl

or_last : (a b : Bool) → (a || (b || false)) ≡ (a || b)
or_last a true = refl
or_last a false = refl

says_const : (b : Bool) (n : ℕ) → says_both (by_lists.const b) n ≡ by_tracks.const b
says_const true n = refl
says_const false n = refl

module _ (n : ℕ) where
  all_two : (p q : Part) → says (all_of (p ∷ q ∷ [])) n ≡ (says p n && says q n)
  all_two p q = rules_fold.all_answers (p ∷ q ∷ []) n ∙ and_last (says p n) (says q n)

  any_two : (p q : Part) → says (any_of (p ∷ q ∷ [])) n ≡ (says p n || says q n)
  any_two p q = rules_fold.any_answers (p ∷ q ∷ []) n ∙ or_last (says p n) (says q n)

  says_kept : Keeps by_lists by_tracks (λ (v : Parts) (t : Pair). says_both v n ≡ t)
  says_kept = record {
    const = λ b. says_const b n;
    both = λ {a} {a'} h k. ap₂ (λ (x y : Bool). record { may_be_1 = x; may_be_0 = y }) (all_two a.one a'.one) (any_two a.zero a'.zero) ∙ ap₂ by_tracks.both h k;
    either = λ {a} {a'} h k. ap₂ (λ (x y : Bool). record { may_be_1 = x; may_be_0 = y }) (any_two a.one a'.one) (all_two a.zero a'.zero) ∙ ap₂ by_tracks.either h k;
    invert = λ {a} h. ap by_tracks.invert h;
  }

pub lists_through_a_gate : ListsThroughAGate
lists_through_a_gate g pin own n = driven_keeps (says_kept n) g pin (λ j. says_both (pin j) n) (λ j _. refl) own (says_both own n) refl
