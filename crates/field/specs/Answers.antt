-- What the code answers where it reads: a value with what is then left of the file, or why the file is refused.
use Rattle.std.specs.Prelude.{◌≡◌, ℕ, ◌<◌, List, [], map, length, take, drop, Ok, Err, Result}
use Rattle.std.specs.Borrow.{Bor}
use Rattle.std.proofs.Math.Nat.{le_refl}
use Rattle.refusal.specs.declared.FileFault.{FileFault}
use Rattle.field.specs.declared.unread.Unread.{Unread}
use Rattle.field.specs.Fields.{Reading, many}

-- a file, all of it still to be read
abbrev pub whole : Bor (List ℕ) → Unread
whole file = record { rest = file; end = length file.now; inside = le_refl (length file.now) }

-- the answer, its value seen by a view, is this reading of what was left, and what is left now is of the same file
abbrev pub ReadAs : {A B : Type 0} → (A → B) → (ℕ → List ℕ → Reading B) → Unread → Result (A × Unread) FileFault → Type 0
ReadAs view read s (Ok p) = (p.1.end ≡ s.end) × (Ok (view p.0, p.1.rest.now) ≡ read s.end s.rest.now)
ReadAs view read s (Err e) = Err e ≡ read s.end s.rest.now

-- an answer that lies in a lent table
abbrev pub filled : {A : Type 0} → Result Unread FileFault → List A → Result (List A × Unread) FileFault
filled (Ok rest) table = Ok (table, rest)
filled (Err e) table = Err e

-- n things in a row, where each step knows how long the file is
abbrev pub in_a_row : {A : Type 0} → (List A → ℕ → List ℕ → Reading A) → ℕ → ℕ → List ℕ → Reading (List A)
in_a_row step n end s = many (λ before. step before end) n [] s

-- each call, after fewer than n things, answers as the step says, its things seen by a view
abbrev pub Each : {A : Type 0} → (Bor (List A) → Unread → Result (A × Unread) FileFault → Type 0) → ℕ → (A → A) → (List A → ℕ → List ℕ → Reading A) → Type 0
Each {A} Call n view step = (before : Bor (List A)) (s : Unread) (r : Result (A × Unread) FileFault) → length before.now < n → Call before s r → ReadAs view (step (map view before.now)) s r

-- what is told of each call is told of all of them in a row
pub record Told {A : Type 0} (Call : Bor (List A) → Unread → Result (A × Unread) FileFault → Type 0) (n : ℕ) (s : Unread) (answer : Result (List A × Unread) FileFault) : Type 0 where
  pub by : (view : A → A) (step : List A → ℕ → List ℕ → Reading A) → Each Call n view step → ReadAs (map view) (in_a_row step n) s answer

-- a table that was filled up to a thing that was refused: the things before it, and the other places as they were
abbrev pub BrokenOff : {A : Type 0} → (Bor (List A) → Unread → Result (A × Unread) FileFault → Type 0) → List A → Unread → List A → Type 0
BrokenOff Call old s new = (at : ℕ) × (at < length old) × (drop at new ≡ drop at old) × ((left : Unread) × Told Call at s (Ok (take at new, left)))
