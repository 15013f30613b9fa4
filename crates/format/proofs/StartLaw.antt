-- The start values of a job: which bytes stand for them, and that the reader takes just those.
use Rattle.std.proofs.Common.{◌≡◌, ℕ, zero, suc, ◌+◌, ◌-◌, ◌*◌, ◌/◌, ◌%◌, ◌^◌, ◌<◌, ◌≤◌, min, Bool, true, false, List, length, get_or, replicate, sym, refl, ◌∙◌, ⊎_elim, add-zero, add-suc, mod-eq_of_lt, arith, pow_mono}
use native.Mathlib.Nat.{pow-succ', div-eq_of_lt}
use lib.Bits.{bit_and, mask_lt}
use Rattle.std.proofs.lemmas.List.{length-take-le, length_push, length-replicate, get_or_append_left, get_or_push, get_or_past, ext_get_or}
use Rattle.std.proofs.lemmas.Nat.{pow_pos, and_mask, div_below, le-div}
use Rattle.std.proofs.lemmas.Bool.{true≢false, cases_lt, eqb-true, eq-eqb}
use Rattle.field.specs.declared.row.Row.TheVariants.{Start}
use Rattle.circuit.specs.Gates.{bit}
use Rattle.format.specs.Reading.{start_of, unpacked}
use Rattle.format.specs.Written.{StartWritten, StartGiven}
use Rattle.format.proofs.Readers.{Fits, Admitted, pure_fits, last_fits, row_fits, fits_like}

-- a number below a power of two has no bits from there on
bit_past : (b j m : ℕ) → b < 2 ^ m → m ≤ j → bit b j ≡ false
bit_past b j m h l = let p : b < 2 ^ j = omega (arith, pow_mono {i = m} {j = j} l) in rw (div-eq_of_lt p)

-- and a number whose highest bit is not set is below the next power of two
bit_down : (b j : ℕ) → b < 2 ^ suc j → bit b j ≡ false → b < 2 ^ j
bit_down b j h e = ⊎_elim (λ l. l) (λ g. absurd (high g)) (cases_lt b (2 ^ j))
  where
    high : 2 ^ j ≤ b → ⊥
    high g =
        let top : b < 2 * 2 ^ j = omega (arith, pow-succ' 2 j) in
        let low : 1 * 2 ^ j ≤ b = omega arith in
        let one : b / 2 ^ j ≡ 1 = omega (arith, div_below b (2 ^ j) 2 (pow_pos j) top, le-div 1 b (2 ^ j) (pow_pos j) low) in
        true≢false (rw one at e)

-- so a number with no bits from place m up to the end is below that power
bits_under : (b m d : ℕ) → b < 2 ^ (m + d) → ((j : ℕ) → m ≤ j → j < m + d → bit b j ≡ false) → b < 2 ^ m
bits_under b m zero h e = rw (add-zero m) at h
bits_under b m (suc d) h e = bits_under b m d (bit_down b (m + d) (rw (add-suc m d) at h) (e (m + d) (omega arith) (omega arith))) (λ j l r. e j l (omega arith))

-- a mask of the lowest m bits leaves just the numbers below that power
under_mask : (b m : ℕ) → bit_and b (2 ^ m - 1) ≡ b → b < 2 ^ m
under_mask b m h = omega (arith, mask_lt b m)

-- and the other way round
mask_under : (b m : ℕ) → b < 2 ^ m → bit_and b (2 ^ m - 1) ≡ b
mask_under b m h = and_mask b m ∙ mod-eq_of_lt h

-- start bytes give a value for each line
length_unpacked : (bytes : List ℕ) (lines : ℕ) → length (unpacked bytes lines) ≡ lines
length_unpacked bytes zero = refl
length_unpacked bytes (suc n) = length_push (unpacked bytes n) _ ∙ omega (arith, length_unpacked bytes n)

-- and the value of line n is bit n mod 8 of byte n div 8
unpacked_at : (bytes : List ℕ) (lines n : ℕ) → n < lines → get_or (unpacked bytes lines) n false ≡ bit (get_or bytes (n / 8) 0) (n % 8)
unpacked_at bytes zero n l = absurd (omega arith)
unpacked_at bytes (suc m) n l = ⊎_elim
    (λ below. get_or_append_left (unpacked bytes m) _ false n (omega (arith, length_unpacked bytes m)) ∙ unpacked_at bytes m n below)
    (λ past. let e : n ≡ m = omega arith in rw e (get_or_push (unpacked bytes m) (bit (get_or bytes (m / 8) 0) (m % 8)) false m (length_unpacked bytes m)))
    (cases_lt n m)

-- each byte is below the power of two that its lines leave it
abbrev Under : ℕ → List ℕ → Type 0
Under lines bytes = (i : ℕ) → i < length bytes → get_or bytes i 0 < 2 ^ (min (lines - 8 * i) 8)

-- this is what the row of start bytes takes
under_admitted : (lines : ℕ) (bytes : List ℕ) → Admitted (Start lines) bytes → Under lines bytes
under_admitted lines bytes h i l =
    under_mask (get_or bytes i 0) (min (lines - 8 * i) 8) (let e = eqb-true _ _ (h i l) in rw (length-take-le i bytes (omega arith)) at e)

-- and all of it
admitted_under : (lines : ℕ) (bytes : List ℕ) → Under lines bytes → Admitted (Start lines) bytes
admitted_under lines bytes h i l =
    rw (length-take-le i bytes (omega arith)) (eq-eqb _ _ (mask_under (get_or bytes i 0) (min (lines - 8 * i) 8) (h i l)))

-- bits past the last line are not set
spare : (lines : ℕ) (bytes : List ℕ) → Under lines bytes → (n : ℕ) → lines ≤ n → n < 8 * length bytes → bit (get_or bytes (n / 8) 0) (n % 8) ≡ false
spare lines bytes h n past l = bit_past (get_or bytes (n / 8) 0) (n % 8) (min (lines - 8 * (n / 8)) 8) (h (n / 8) (omega arith)) (omega arith)

-- such bytes stand for the values that they give
written_sound : (lines : ℕ) (bytes : List ℕ) → length bytes ≡ (lines + 7) / 8 → Under lines bytes → StartWritten lines (unpacked bytes lines) bytes
written_sound lines bytes count h = record {
  enough = count;
  small = λ i l. let p : 2 ^ (min (lines - 8 * i) 8) ≤ 2 ^ 8 = pow_mono {i = min (lines - 8 * i) 8} {j = 8} (omega arith) in omega (arith, h i l);
  each = λ n l. ⊎_elim
      (λ below. sym (unpacked_at bytes lines n below))
      (λ past. spare lines bytes h n past l ∙ sym (get_or_past (unpacked bytes lines) n false (omega (arith, length_unpacked bytes lines))))
      (cases_lt n lines);
}

-- bytes that stand for values are such bytes, since their spare bits are not set
written_under : (lines : ℕ) (start : List Bool) (bytes : List ℕ) → length start ≡ lines → StartWritten lines start bytes → Under lines bytes
written_under lines start bytes len w i l =
    let whole : min (lines - 8 * i) 8 + (8 - min (lines - 8 * i) 8) ≡ 8 = omega arith in
    bits_under (get_or bytes i 0) (min (lines - 8 * i) 8) (8 - min (lines - 8 * i) 8) (rw whole (w.small i l)) (λ j from to. empty j (omega arith) (omega arith))
  where
    empty : (j : ℕ) → lines ≤ 8 * i + j → j < 8 → bit (get_or bytes i 0) j ≡ false
    empty j past r =
        let q : (8 * i + j) / 8 ≡ i = omega arith in
        let p : (8 * i + j) % 8 ≡ j = omega arith in
        let e = w.each (8 * i + j) (omega arith) in
        (rw (q, p) at e) ∙ get_or_past start (8 * i + j) false (omega arith)

-- and what they give are those values
written_unpacked : (lines : ℕ) (start : List Bool) (bytes : List ℕ) → length start ≡ lines → StartWritten lines start bytes → start ≡ unpacked bytes lines
written_unpacked lines start bytes len w =
    ext_get_or false start (unpacked bytes lines) (len ∙ sym (length_unpacked bytes lines))
    (λ n l. sym (w.each n (omega (arith, w.enough))) ∙ sym (unpacked_at bytes lines n (omega arith)))

-- start values are read just where the bytes stand for them
pub start_fits : (flag : Bool) (lines end : ℕ) → Fits (start_of flag lines end) (λ start bytes. (length start ≡ lines) × StartGiven flag lines start bytes)
start_fits false lines end =
    fits_like (pure_fits (replicate lines false))
    (λ start bytes h. (rw h.0 (length-replicate lines false), h))
    (λ start bytes h. h.1)
start_fits true lines end =
    fits_like (last_fits (row_fits (Start lines) ((lines + 7) / 8) end))
    (λ start bytes h. rw (h.1, h.2.is) (length_unpacked h.0 lines, written_sound lines h.0 h.2.count (under_admitted lines h.0 h.2.admitted)))
    (λ start bytes h. (
      bytes,
      written_unpacked lines start bytes h.0 h.1,
      record { count = h.1.enough; admitted = admitted_under lines bytes (written_under lines start bytes h.0 h.1); is = refl },
    ))
