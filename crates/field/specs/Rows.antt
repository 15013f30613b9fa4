-- Rows of bytes: which field comes after the bytes before it.
use Rattle.std.specs.Prelude.{ℕ, ◌+◌, ◌-◌, ◌*◌, ◌^◌, min, cond, List, [], length, ◌==◌, slice_index}
use Rattle.field.specs.declared.byte.Field.{Field}
use Rattle.field.specs.declared.byte.Field.TheVariants.{Count, Bits, Place}
use Rattle.field.specs.declared.row.Row.{Row}
use Rattle.field.specs.declared.row.Row.TheVariants.{Outputs, Start, Pins, Used, Inverted}
use Rattle.field.specs.Fields.{Reading, byte_of, many}

-- the mask of the lowest n bits of a byte
abbrev pub low_bits : ℕ → ℕ
low_bits n = 2 ^ (min n 8) - 1

-- the lowest line that the next output may name
abbrev pub above : ℕ → List ℕ → ℕ
above inputs before = cond (length before == 0) inputs (slice_index before (length before - 1) + 1)

abbrev pub field_after : Row → List ℕ → Field
field_after (Outputs inputs lines) before = Place (above inputs before) lines
field_after (Start lines) before = Bits (low_bits (lines - 8 * length before))
field_after (Pins lines) before = Place 0 lines
field_after (Used pins) before = Count 1 (low_bits pins)
field_after (Inverted used) before = Bits (slice_index used (length before))

abbrev pub row_of : Row → ℕ → ℕ → List ℕ → Reading (List ℕ)
row_of row count end s = many (λ before. byte_of (field_after row before) end) count [] s
