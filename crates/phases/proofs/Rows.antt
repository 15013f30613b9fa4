-- What is read depends on the tracks held alone; and what a phase gives by them.
use Rattle.std.proofs.Common.{◌≡◌, ℕ, zero, suc, ◌+◌, Bool, List, [], ◌∷◌, map, length, get_or, set, sym, refl, ap, ◌∙◌, ap₂, arith}
use mathlib.Core.Path.{fun_ext}
use Rattle.ternary.specs.declared.Value.{Value}
use Rattle.ternary.specs.declared.Value.TheVariants.{Zero, One, Two}
use Rattle.ternary.specs.Values.{join}
use Rattle.ternary.specs.Logics.{Tracks as Pair, tracks}
use Rattle.switching.specs.declared.Phase.{Phase}
use Rattle.switching.specs.declared.Phase.TheVariants.{Spread, Settle}
use Rattle.switching.specs.Phases.{taken}
use Rattle.track.specs.declared.table.Line.{Line}
use Rattle.track.specs.declared.table.Tracks.{Tracks}
use Rattle.track.specs.Answers.{answers, whole, value, joined}
use Rattle.step.specs.declared.rows.Reading.{Reading}
use Rattle.step.proofs.Looks.{held_tracks}
use Rattle.step.specs.Rows.{look, unknown, stored_at, held_at, reading, Readable}

pub joined_tracks : (v w : Value) → joined (tracks v) (tracks w) ≡ tracks (join v w)
joined_tracks Zero Zero = refl
joined_tracks Zero One = refl
joined_tracks Zero Two = refl
joined_tracks One Zero = refl
joined_tracks One One = refl
joined_tracks One Two = refl
joined_tracks Two Zero = refl
joined_tracks Two One = refl
joined_tracks Two Two = refl

-- a function of what is looked at
pub look_after : {A B C : Type 0} (h : B → C) (f : A → B) (z : B) (xs : List A) (i : ℕ) → look (λ x. h (f x)) (h z) xs i ≡ h (look f z xs i)
unfolding look
look_after h f z [] i = refl
look_after h f z (x ∷ xs) zero = refl
look_after h f z (x ∷ xs) (suc i) = look_after h f z xs i

-- a new draft leaves what is held
pub held_by_draft : {S : Type 0} (xs : List (Line S)) (i : ℕ) (d : Line S) (t : Tracks S) → map (λ x. x.held) (set xs i (record { held = (get_or xs i d).held; draft = t })) ≡ map (λ x. x.held) xs
held_by_draft [] i d t = refl
held_by_draft (x ∷ xs) zero d t = refl
held_by_draft (x ∷ xs) (suc i) d t = ap (λ (hs : List (Tracks _)). x.held ∷ hs) (held_by_draft xs i d t)

module _ {S : Type 0} (m : S → ℕ → Bool) where
  pub held_whole : (xs : List (Line S)) (n i : ℕ) → held_at m xs n i ≡ whole (stored_at m xs n i)
  held_whole xs n i = look_after whole (λ (x : Line S). answers m x.held n) unknown xs i

  fused : (xs : List (Line S)) (n i : ℕ) → stored_at m xs n i ≡ look (λ t. answers m t n) unknown (map (λ x. x.held) xs) i
  unfolding look
  fused [] n i = refl
  fused (x ∷ xs) n zero = refl
  fused (x ∷ xs) n (suc i) = fused xs n i

  pub stored_same : (xs ys : List (Line S)) → map (λ x. x.held) xs ≡ map (λ x. x.held) ys → (n i : ℕ) → stored_at m xs n i ≡ stored_at m ys n i
  stored_same xs ys e n i = fused xs n i ∙ ap (λ (hs : List (Tracks S)). look (λ t. answers m t n) unknown hs i) e ∙ sym (fused ys n i)

  pub held_same : (xs ys : List (Line S)) → map (λ x. x.held) xs ≡ map (λ x. x.held) ys → (n i : ℕ) → held_at m xs n i ≡ held_at m ys n i
  held_same xs ys e n i = held_whole xs n i ∙ ap whole (stored_same xs ys e n i) ∙ sym (held_whole ys n i)

  pub reading_same : (P : ℕ) (xs ys : List (Line S)) → map (λ x. x.held) xs ≡ map (λ x. x.held) ys → (n : ℕ) → reading m P xs n ≡ reading m P ys n
  reading_same P xs ys e n = ap₂ (λ (f g : ℕ → Value). record { input = f; gate = g }) (fun_ext (λ i. ap value (held_same xs ys e n i))) (fun_ext (λ k. ap value (held_same xs ys e n (P + k))))

  -- rows that hold the same can be read the same
  pub readable_same : (how : Reading) (count : ℕ) (xs ys : List (Line S)) → map (λ x. x.held) xs ≡ map (λ x. x.held) ys → length xs ≡ length ys → Readable m how count ys → Readable m how count xs
  readable_same how count xs ys e far r = record {
    room = omega (arith, r.room);
    as_said = λ w i n lt. stored_same xs ys e n i ∙ r.as_said w i n lt ∙ sym (held_same xs ys e n i);
  }

  -- what each phase gives a gate, by the tracks of its own line and of what its function gives
  pub spread_taken : (xs : List (Line S)) (n i : ℕ) (w : Value) (phase : Phase) → phase ≡ Spread → joined (held_at m xs n i) (tracks w) ≡ tracks (taken phase (value (held_at m xs n i)) w)
  spread_taken xs n i w phase e =
      ap (λ (t : Pair). joined t (tracks w)) (held_tracks m xs n i) ∙ joined_tracks (value (held_at m xs n i)) w ∙ ap (λ (p : Phase). tracks (taken p (value (held_at m xs n i)) w)) (sym e)

pub settle_taken : (v w : Value) (phase : Phase) → phase ≡ Settle → tracks w ≡ tracks (taken phase v w)
settle_taken v w phase e = ap (λ (p : Phase). tracks (taken p v w)) (sym e)
