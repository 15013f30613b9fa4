use Rattle.std.proofs.Common.{ℕ, List, map, Ok, Err, Result, rules}
use Rattle.std.proofs.lemmas.List.{map-id}
use Rattle.refusal.specs.declared.FileFault.{FileFault}
use Rattle.field.specs.declared.row.Row.{Row}
use Rattle.field.specs.declared.unread.Unread.{Unread}
use Rattle.field.specs.Fields.{Reading, byte_of}
use Rattle.field.specs.Rows.{field_after, row_of}
use Rattle.field.specs.Answers.{ReadAs, filled, in_a_row}
use Rattle.field.proofs.unread.Unread.fill_row.Goals as goal

-- a byte, by the bytes before it
abbrev step : Row → List ℕ → ℕ → List ℕ → Reading ℕ
step row before = byte_of (field_after row before)

-- bytes are seen as they are
plain : (row : Row) (n : ℕ) (s : Unread) (answer : Result Unread FileFault) (bytes : List ℕ) → ReadAs (map (λ (b : ℕ). b)) (in_a_row (step row) n) s (filled answer bytes) → ReadAs (λ b. b) (row_of row n) s (filled answer bytes)
plain row n s (Ok rest) bytes h = (h.0, rw map-id at h.1)
plain row n s (Err e) bytes h = h

pub returns : goal.returns
returns c = plain c.args.row _ c.args.self c.fill.result c.fill.new.table (c.fill.ensures.told.by (λ (b : ℕ). b) (step c.args.row) (λ before s r l call. rw map-id (search rules)))
