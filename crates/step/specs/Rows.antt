-- What the rows of the table say of the lines of circuit n, and of the good circuit.
use Rattle.std.specs.Prelude.{◌≡◌, ℕ, ◌+◌, ◌<◌, ◌≤◌, Bool, true, List, map, length, slice_index_or}
use Rattle.ternary.specs.declared.Value.{Value}
use Rattle.ternary.specs.Logics.{Tracks as Pair}
use Rattle.switching.specs.Lines.{Lines}
use Rattle.track.specs.declared.table.Line.{Line}
use Rattle.track.specs.Answers.{answers, goods, whole, value}
use Rattle.step.specs.declared.rows.Reading.{Reading}
use Rattle.step.specs.declared.rows.Reading.TheVariants.{Whole}

-- a part of row i, and z past the end
unfoldable pub look : {A B : Type 0} → (A → B) → B → List A → ℕ → B
look f z xs i = slice_index_or (map f xs) i z

-- what is read past the end: the line may be 1 and may be 0
abbrev pub unknown : Pair
unknown = record { may_be_1 = true; may_be_0 = true }

module _ {S : Type 0} (member : S → ℕ → Bool) where
  -- circuit n's answers that row i holds, as they stand
  abbrev pub stored_at : List (Line S) → ℕ → ℕ → Pair
  stored_at lines n i = look (λ x. answers member x.held n) unknown lines i

  -- the same as they are read: neither as both
  abbrev pub held_at : List (Line S) → ℕ → ℕ → Pair
  held_at lines n i = look (λ x. whole (answers member x.held n)) unknown lines i

  -- its answers in the draft, as they stand
  abbrev pub draft_at : List (Line S) → ℕ → ℕ → Pair
  draft_at lines n i = look (λ x. answers member x.draft n) unknown lines i

  -- the values of its lines
  abbrev pub reading : ℕ → List (Line S) → ℕ → Lines Value
  reading inputs lines n = record { input = λ i. value (held_at lines n i); gate = λ k. value (held_at lines n (inputs + k)) }

  -- in the first rows every circuit has an answer
  abbrev pub WholeRows : ℕ → List (Line S) → Type 0
  WholeRows count lines = (i n : ℕ) → i < count → stored_at lines n i ≡ held_at lines n i

  -- the first rows are there, and are as they are said to be
  pub record Readable (how : Reading) (count : ℕ) (lines : List (Line S)) : Type 0 where
    pub room : count ≤ length lines
    pub as_said : how ≡ Whole → WholeRows count lines

-- the good circuit's answers at row i, as they stand
abbrev pub good_stored_at : {S : Type 0} → List (Line S) → ℕ → Pair
good_stored_at lines i = look (λ x. goods x.held) unknown lines i

-- as they are read
abbrev pub good_held_at : {S : Type 0} → List (Line S) → ℕ → Pair
good_held_at lines i = look (λ x. whole (goods x.held)) unknown lines i

-- in the draft
abbrev pub good_draft_at : {S : Type 0} → List (Line S) → ℕ → Pair
good_draft_at lines i = look (λ x. goods x.draft) unknown lines i

-- the values of its lines
abbrev pub good_reading : {S : Type 0} → ℕ → List (Line S) → Lines Value
good_reading inputs lines = record { input = λ i. value (good_held_at lines i); gate = λ k. value (good_held_at lines (inputs + k)) }
