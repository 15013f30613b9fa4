-- The rules for tracks of several parts at once, and that two parts at a time give the same.
use Rattle.std.specs.Prelude.{◌≡◌, ℕ, Bool, true, false, cond, not, ◌&&◌, ◌||◌, List, [], ◌∷◌, fold}
use Rattle.track.specs.Answers.{unless}

-- a track, whatever its kind of set: the good circuit's answer, and which circuits have the other one
pub record Part : Type 0 where
  pub good : Bool
  pub differs : ℕ → Bool

-- the answer of circuit n
abbrev pub says : Part → ℕ → Bool
says p n = unless p.good (p.differs n)

abbrev pub every : (Part → Bool) → List Part → Bool
every f [] = true
every f (p ∷ ps) = f p && every f ps

abbrev pub some : (Part → Bool) → List Part → Bool
some f [] = false
some f (p ∷ ps) = f p || some f ps

-- whether an answer is this one
abbrev pub is : Bool → Bool → Bool
is true answer = answer
is false answer = not answer

-- This answer if all parts have it, else the other. The set: the union if all parts have it,
-- else what the parts with the other answer have in common, less the set of every part with this one.
abbrev pub unanimous : Bool → List Part → Part
unanimous wanted ps = record {
  good = is wanted (every (λ p. is wanted p.good) ps);
  differs = λ n. cond (every (λ p. is wanted p.good) ps) (some (λ p. p.differs n) ps)
      (every (λ p. is wanted p.good || p.differs n) ps && not (some (λ p. is wanted p.good && p.differs n) ps));
}

-- yes if all parts say yes
abbrev pub all_of : List Part → Part
all_of = unanimous true

-- no if all parts say no
abbrev pub any_of : List Part → Part
any_of = unanimous false

pub record RulesFold : Type 0 where
  -- the rules give each circuit the answer of its own parts
  pub all_answers : (ps : List Part) (n : ℕ) → says (all_of ps) n ≡ every (λ p. says p n) ps
  pub any_answers : (ps : List Part) (n : ℕ) → says (any_of ps) n ≡ some (λ p. says p n) ps
  -- and so do the rules for two parts, one part after another
  pub all_folds : (ps : List Part) (n : ℕ) → says (fold (λ all p. all_of (all ∷ p ∷ [])) (all_of []) ps) n ≡ says (all_of ps) n
  pub any_folds : (ps : List Part) (n : ℕ) → says (fold (λ any p. any_of (any ∷ p ∷ [])) (any_of []) ps) n ≡ says (any_of ps) n
