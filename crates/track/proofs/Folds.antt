-- The rules for several parts give each circuit its own answer, and so does folding them over the parts.
use Rattle.std.proofs.Common.{◌≡◌, ℕ, Bool, true, false, cond, not, ◌&&◌, ◌||◌, List, [], ◌∷◌, fold, sym, refl, ap, ◌∙◌, ap₂}
use mathlib.Core.Bool.{false≢true}
use Rattle.track.specs.Answers.{unless}
use Rattle.track.specs.Rules.{Part, says, every, some, is, unanimous, RulesFold}

-- one part more, where some part has the other answer
other_more : (g d a b c : Bool) → (b && not c) ≡ a → (((g || d) && b) && not ((g && d) || c)) ≡ (unless g d && a)
other_more true true a true c e = refl
other_more true true a false c e = refl
other_more true false a b c e = e
other_more false true a b c e = e
other_more false false a b c e = refl

-- one part more, where every part has the answer
one_more : (g d r u all : Bool) → (g && all) ≡ true → (all ≡ true → not u ≡ r) → not (d || u) ≡ (unless g d && r)
one_more true true r u all e h = refl
one_more true false r u all e h = h e
one_more false d r u all e h = absurd (false≢true e)

is_twice : (wanted b : Bool) → is wanted (is wanted b) ≡ b
is_twice true b = refl
is_twice false true = refl
is_twice false false = refl

is_unless : (wanted g d : Bool) → is wanted (unless g d) ≡ unless (is wanted g) d
is_unless true g d = refl
is_unless false true true = refl
is_unless false true false = refl
is_unless false false d = refl

and_true : (b : Bool) → (b && true) ≡ b
and_true true = refl
and_true false = refl

and_assoc : (a b c : Bool) → ((a && b) && c) ≡ (a && (b && c))
and_assoc true b c = refl
and_assoc false b c = refl

not_every : (f : Part → Bool) (ps : List Part) → not (every (λ p. not (f p)) ps) ≡ some f ps
not_every f [] = refl
not_every f (p ∷ ps) = elim (f p) as (λ b. not (not b && every (λ q. not (f q)) ps) ≡ (b || some f ps)) [ true ↦ refl | false ↦ not_every f ps ]

-- the answer that all parts must have
module _ (wanted : Bool) (n : ℕ) where
  -- whether a part has it in circuit n, by its own answer and by its set
  abbrev has : Part → Bool
  has p = unless (is wanted p.good) (p.differs n)

  others : (ps : List Part) → (every (λ p. is wanted p.good || p.differs n) ps && not (some (λ p. is wanted p.good && p.differs n) ps)) ≡ every has ps
  others [] = refl
  others (p ∷ ps) = other_more (is wanted p.good) (p.differs n) _ _ _ (others ps)

  ones : (ps : List Part) → every (λ p. is wanted p.good) ps ≡ true → not (some (λ p. p.differs n) ps) ≡ every has ps
  ones [] e = refl
  ones (p ∷ ps) e = one_more (is wanted p.good) (p.differs n) _ _ _ e (ones ps)

  unanimous_has : (ps : List Part) → is wanted (says (unanimous wanted ps) n) ≡ every has ps
  unanimous_has ps =
      is_unless wanted _ _ ∙ ap (λ (b : Bool). unless b ((unanimous wanted ps).differs n)) (is_twice wanted _)
      ∙ elim (every (λ p. is wanted p.good) ps) as (λ b. every (λ p. is wanted p.good) ps ≡ b
      → unless b (cond b (some (λ p. p.differs n) ps) (every (λ p. is wanted p.good || p.differs n) ps && not (some (λ p. is wanted p.good && p.differs n) ps))) ≡ every has ps)
      [ true ↦ (λ e. ones ps e) | false ↦ (λ e. others ps) ] refl

  has_says : (p : Part) → has p ≡ is wanted (says p n)
  has_says p = sym (is_unless wanted p.good (p.differs n))

  every_says : (ps : List Part) → every has ps ≡ every (λ p. is wanted (says p n)) ps
  every_says [] = refl
  every_says (p ∷ ps) = ap₂ ◌&&◌ (has_says p) (every_says ps)

  pub answers_of : (ps : List Part) → says (unanimous wanted ps) n ≡ is wanted (every (λ p. is wanted (says p n)) ps)
  answers_of ps = sym (is_twice wanted _) ∙ ap (is wanted) (unanimous_has ps ∙ every_says ps)

  folds_from : (from : Part) (ps : List Part) → is wanted (says (fold (λ all p. unanimous wanted (all ∷ p ∷ [])) from ps) n) ≡ (is wanted (says from n) && every has ps)
  folds_from from [] = sym (and_true _)
  folds_from from (p ∷ ps) =
      folds_from (unanimous wanted (from ∷ p ∷ [])) ps
      ∙ ap (λ (b : Bool). b && every has ps) (unanimous_has (from ∷ p ∷ []) ∙ ap₂ ◌&&◌ (has_says from) (and_true (has p)))
      ∙ and_assoc (is wanted (says from n)) (has p) (every has ps)

  pub folds : (ps : List Part) → says (fold (λ all p. unanimous wanted (all ∷ p ∷ [])) (unanimous wanted []) ps) n ≡ says (unanimous wanted ps) n
  folds ps =
      sym (is_twice wanted _)
      ∙ ap (is wanted) (folds_from (unanimous wanted []) ps ∙ ap (λ (b : Bool). b && every has ps) (unanimous_has []) ∙ sym (unanimous_has ps))
      ∙ is_twice wanted _

pub rules_fold : RulesFold
rules_fold = record {
  all_answers = λ ps n. answers_of true n ps;
  any_answers = λ ps n. answers_of false n ps ∙ not_every (λ p. says p n) ps;
  all_folds = λ ps n. folds true n ps;
  any_folds = λ ps n. folds false n ps;
}
