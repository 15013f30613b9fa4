-- A look at one row, and what is read there.
use Rattle.std.proofs.Common.{◌≡◌, ℕ, zero, suc, ◌<◌, Bool, true, false, ◌≢◌, List, [], ◌∷◌, map, length, get_or, set, refl, ap, ◌∙◌, arith}
use Rattle.std.proofs.lemmas.List.{get_or-map, map-set, get_or-set_other}
use Rattle.ternary.specs.declared.Value.{Value}
use Rattle.ternary.specs.declared.Value.TheVariants.{Zero, One, Two}
use Rattle.ternary.specs.Logics.{Tracks as Pair, tracks}
use Rattle.track.specs.declared.table.Line.{Line}
use Rattle.track.specs.Answers.{answers, whole, value}
use Rattle.step.specs.Rows.{look, unknown, held_at}

pub look_at : {A B : Type 0} (f : A → B) (z : B) (xs : List A) (i : ℕ) (d : A) → i < length xs → look f z xs i ≡ f (get_or xs i d)
unfolding look
look_at f z xs i d h = get_or-map f xs i d z h

pub look_set_same : {A B : Type 0} (f : A → B) (z : B) (xs : List A) (i : ℕ) (v : A) → i < length xs → look f z (set xs i v) i ≡ f v
unfolding look
look_set_same f z [] i v h = absurd (omega arith)
look_set_same f z (x ∷ xs) zero v h = refl
look_set_same f z (x ∷ xs) (suc i) v h = look_set_same f z xs i v (omega arith)

pub look_set_other : {A B : Type 0} (f : A → B) (z : B) (xs : List A) (i j : ℕ) (v : A) → j ≢ i → look f z (set xs i v) j ≡ look f z xs j
unfolding look
look_set_other f z xs i j v ne = ap (λ (ys : List _). get_or ys j z) (map-set f xs i v) ∙ get_or-set_other (map f xs) i j (f v) z ne

-- what holds of each row and of what is past the end
pub look_all : {A B : Type 0} (f : A → B) (z : B) (P : B → Type 0) → ((x : A) → P (f x)) → P z → (xs : List A) (i : ℕ) → P (look f z xs i)
unfolding look
look_all f z P each past [] i = past
look_all f z P each past (x ∷ xs) zero = each x
look_all f z P each past (x ∷ xs) (suc i) = look_all f z P each past xs i

-- whole answers are the tracks of the value that they mean
whole_bits : (a b : Bool) → whole (record { may_be_1 = a; may_be_0 = b }) ≡ tracks (value (whole (record { may_be_1 = a; may_be_0 = b })))
whole_bits true true = refl
whole_bits true false = refl
whole_bits false true = refl
whole_bits false false = refl

-- so is what is read
pub held_tracks : {S : Type 0} (m : S → ℕ → Bool) (lines : List (Line S)) (n i : ℕ) → held_at m lines n i ≡ tracks (value (held_at m lines n i))
held_tracks m lines n i =
    look_all _ unknown (λ (p : Pair). p ≡ tracks (value p)) (λ x. whole_bits (answers m x.held n).may_be_1 (answers m x.held n).may_be_0) refl lines i

-- the tracks of a value mean that value, and are whole
pub value_tracks : (v : Value) → value (tracks v) ≡ v
value_tracks Zero = refl
value_tracks One = refl
value_tracks Two = refl

pub whole_tracks : (v : Value) → whole (tracks v) ≡ tracks v
whole_tracks Zero = refl
whole_tracks One = refl
whole_tracks Two = refl
