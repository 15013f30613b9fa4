-- A table whose first places are filled.
use Rattle.std.proofs.Common.{◌≡◌, ℕ, List, ◌++◌, map, length, take, Ok, Err, ◌∙◌}
use Rattle.std.proofs.lemmas.List.{take_at}
use Rattle.refusal.specs.declared.FileFault.{FileFault}
use Rattle.field.specs.declared.unread.Unread.{Unread}
use Rattle.field.specs.Fields.{Reading}
use Rattle.field.specs.Answers.{ReadAs, in_a_row}

module _ {A : Type 0} (view : A → A) (step : List A → ℕ → List ℕ → Reading A) (count n : ℕ) (s : Unread) (whole : n ≡ count) where
  pub first_places : (table after : List A) (rest : Unread) → length table ≡ n → ReadAs (map view) (in_a_row step n) s (Ok (table, rest)) → ReadAs (λ t. map view (take count t)) (in_a_row step count) s (Ok (table ++ after, rest))
  first_places table after rest l h = (h.0, rw (take_at table after count (l ∙ whole)) (rw whole at h.1))

  -- or one of them is refused
  pub place_refused : (e : FileFault) → Err e ≡ in_a_row step n s.end s.rest.now → Err e ≡ in_a_row step count s.end s.rest.now
  place_refused e h = rw whole at h
