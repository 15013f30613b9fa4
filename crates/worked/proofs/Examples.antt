-- The worked examples, by computing each circuit.
use Rattle.std.proofs.Common.{◌≡◌, ℕ, zero, suc, ◌<◌, Bool, true, false, not, ◌&&◌, List, [], ◌∷◌, get_or, refl, subst, ap₂, arith}
use mathlib.Core.Bool.{false≢true}
use native.Mathlib.Decide.{dec_lt}
use Rattle.std.proofs.lemmas.Bool.{and_parts}
use Rattle.ternary.specs.Logics.{Tracks as Pair}
use Rattle.circuit.specs.declared.gate.Gate.{Gate}
use Rattle.circuit.specs.Gates.{literal, driven}
use Rattle.worked.specs.Lists.{Parts, by_lists, settled_at, says_both}
use Rattle.worked.specs.Examples.{Example, lists, Holds, All, examples, ExamplesHold}

abbrev alike : Bool → Bool → Bool
alike true b = b
alike false b = not b

alike-≡ : (a b : Bool) → alike a b ≡ true → a ≡ b
alike-≡ true true e = refl
alike-≡ true false e = absurd (false≢true e)
alike-≡ false true e = absurd (false≢true e)
alike-≡ false false e = refl

abbrev same : Pair → Pair → Bool
same p q = alike p.may_be_1 q.may_be_1 && alike p.may_be_0 q.may_be_0

same-≡ : (p q : Pair) → same p q ≡ true → p ≡ q
same-≡ p q e =
    let parts = and_parts (alike p.may_be_1 q.may_be_1) (alike p.may_be_0 q.may_be_0) e in
    ap₂ (λ (x y : Bool). record { may_be_1 = x; may_be_0 = y }) (alike-≡ _ _ parts.0) (alike-≡ _ _ parts.1)

-- what a test finds of each of the first numbers
abbrev every_below : (ℕ → Bool) → ℕ → Bool
every_below f zero = true
every_below f (suc n) = f n && every_below f n

found : (f : ℕ → Bool) (n : ℕ) → every_below f n ≡ true → (i : ℕ) → i < n → f i ≡ true
found f zero e i lt = absurd (omega arith)
found f (suc n) e i lt =
    let parts = and_parts (f n) (every_below f n) e in
    elim (dec_lt i n) [ yes h ↦ found f n parts.1 i h | no h ↦ (let q : n ≡ i = omega arith in subst (λ (j : ℕ). f j ≡ true) q parts.0) ]

-- whether it holds of circuit i
abbrev agrees : Gate → List Parts → Parts → ℕ → Bool
agrees g pins out i = same (says_both (driven by_lists g (λ j. get_or pins j (settled_at false [])) (settled_at false [])) i) (says_both out i)

-- whether an example holds
abbrev holds : Example → Bool
holds (lists g pins out) = every_below (agrees g pins out) 192

abbrev all_hold : List Example → Bool
all_hold [] = true
all_hold (e ∷ es) = holds e && all_hold es

sound : (e : Example) → holds e ≡ true → Holds e
sound (lists g pins out) t = λ n lt. same-≡ _ _ (found (agrees g pins out) 192 t n lt)

all_sound : (es : List Example) → all_hold es ≡ true → All es
all_sound [] t = tt
all_sound (e ∷ es) t = let parts = and_parts (holds e) (all_hold es) t in (sound e parts.0, all_sound es parts.1)

pub examples_hold : ExamplesHold
unfolding literal driven
examples_hold = all_sound examples refl
