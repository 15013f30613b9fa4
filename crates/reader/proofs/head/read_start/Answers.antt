use Rattle.std.proofs.Common.{◌≡◌, ℕ, zero, suc, ◌+◌, ◌/◌, ◌<◌, ◌≤◌, Bool, true, false, List, take, replicate, Ok, sym, refl, ap, ◌∙◌, arith}
use Rattle.std.proofs.lemmas.List.{take-replicate, get_or-take}
use Rattle.field.specs.declared.row.Row.TheVariants.{Start}
use Rattle.field.specs.Rows.{row_of}
use Rattle.format.specs.Reading.{unpacked, start_of}
use Rattle.reader.proofs.head.read_start.Goals as goal

-- only the bytes of the lines that are there are looked at
cut : (bytes : List ℕ) (m n : ℕ) → (n + 7) / 8 ≤ m → unpacked bytes n ≡ unpacked (take m bytes) n
cut bytes m zero l = refl
cut bytes m (suc n) l =
    let low : n / 8 < m = omega arith in
    let few : (n + 7) / 8 ≤ m = omega arith in
    rw (cut bytes m n few, get_or-take m bytes (n / 8) 0 low)

none : (lines end : ℕ) (s : List ℕ) (given : Bool) → lines ≤ 48 → given ≡ false → Ok (take lines (replicate 48 false), s) ≡ start_of given lines end s
none lines end s given l h = rw (h, take-replicate {X = Bool} lines 48 false l)

some : (lines end : ℕ) (s rest bytes : List ℕ) (start : List Bool) (given : Bool) → given ≡ true → Ok (take ((lines + 7) / 8) bytes, rest) ≡ row_of (Start lines) ((lines + 7) / 8) end s → start ≡ unpacked bytes lines → Ok (start, rest) ≡ start_of given lines end s
some lines end s rest bytes start given h e u = rw (h, sym e) (ap (λ (x : List Bool). Ok (x, rest)) (u ∙ cut bytes ((lines + 7) / 8) lines (omega arith)))

pub returns-then-not-given : goal.returns-then-not-given
returns-then-not-given c = (refl, none c.args.lines c.args.s.end c.args.s.rest.now c.args.given c.requires c.if-not-given.true)

pub returns : goal.returns
returns c = (
  c.in_ok-bytes.ensures.0,
  some c.args.lines c.args.s.end c.args.s.rest.now c.in_ok-bytes.rest.rest.now c.in_ok-bytes.bytes _ c.args.given c.if-not-given.false c.in_ok-bytes.ensures.1 (c.unpack.ensures c.args.lines c.requires),
)
