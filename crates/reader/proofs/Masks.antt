-- Masks read against a table of used masks.
use Rattle.std.proofs.Common.{◌≡◌, ℕ, ◌≤◌, Bool, true, false, List, [], length, take, replicate, Ok, Err, Result, sym, ap, ◌∙◌, arith}
use Rattle.std.proofs.lemmas.List.{get_or-take, take-replicate}
use Rattle.field.specs.declared.byte.Field.TheVariants.{Bits}
use Rattle.field.specs.declared.row.Row.TheVariants.{Inverted}
use Rattle.field.specs.Fields.{byte_of}
use Rattle.field.specs.Rows.{field_after, row_of}
use Rattle.field.specs.declared.unread.Unread.{Unread}
use Rattle.field.specs.Answers.{ReadAs}
use Rattle.refusal.specs.declared.FileFault.{FileFault}
use Rattle.field.proofs.Steps.{many_same}
use Rattle.format.specs.Reading.{optional}

-- only the used masks of the products that are there are looked at
pub masks_same : (used : List ℕ) (products end : ℕ) (s : List ℕ) → row_of (Inverted used) products end s ≡ row_of (Inverted (take products used)) products end s
masks_same used products end s =
    many_same (λ before. byte_of (field_after (Inverted used) before) end) (λ before. byte_of (field_after (Inverted (take products used)) before) end) products
    (λ before t l. ap (λ (m : ℕ). byte_of (Bits m) end t) (sym (get_or-take products used (length before) 0 l)))
    products [] s (omega arith)

-- inverted masks by their flag
pub masks_absent : (flag : Bool) (used : List ℕ) (products end : ℕ) (s : List ℕ) → products ≤ 8 → false ≡ flag
    → Ok (take products (replicate 8 0), s) ≡ optional flag (replicate products 0) (row_of (Inverted (take products used)) products end) s
masks_absent flag used products end s l h = rw (sym h, take-replicate {X = ℕ} products 8 0 l)

pub masks_present : (flag : Bool) (used : List ℕ) (products : ℕ) (s : Unread) (answer : Result (List ℕ × Unread) FileFault) → ReadAs (take products) (row_of (Inverted used) products) s answer → true ≡ flag
    → ReadAs (take products) (λ end. optional flag (replicate products 0) (row_of (Inverted (take products used)) products end)) s answer
masks_present flag used products s (Ok p) e h = (e.0, rw (sym h) (e.1 ∙ masks_same used products s.end s.rest.now))
masks_present flag used products s (Err r) e h = rw (sym h) (e ∙ masks_same used products s.end s.rest.now)
