-- The lowest set bit of a word.
use Rattle.std.proofs.Common.{◌≡◌, ℕ, zero, suc, ◌+◌, ◌-◌, ◌/◌, ◌%◌, ◌^◌, ◌<◌, ◌≤◌, true, false, eqb, sym, ap, ◌∙◌, ⊎_elim, pow-suc, arith, pow_mono}
use native.Mathlib.Nat.{div-eq_of_lt}
use lib.Count.{count_trailing_zeros, under}
use Rattle.std.proofs.lemmas.Bool.{both_ways, cases_lt, cases_eq, ne_eqb, eq-eqb}
use Rattle.std.proofs.lemmas.Nat.{shr_le}
use Rattle.bit_map.specs.Bits.{bit}
use Rattle.bit_map.proofs.Digits.{bit_low, bit_half, bit_none, bit_shr}

-- an even number has one zero more than its half, an odd one has none
even_zeros : (k x : ℕ) → x % 2 ≡ 0 → count_trailing_zeros (suc k) x ≡ suc (count_trailing_zeros k (x / 2))
unfolding count_trailing_zeros
even_zeros k x e = ap (λ (d : ℕ). under d (count_trailing_zeros k (x / 2))) e

odd_zeros : (k x : ℕ) → x % 2 ≡ 1 → count_trailing_zeros (suc k) x ≡ 0
unfolding count_trailing_zeros
odd_zeros k x e = ap (λ (d : ℕ). under d (count_trailing_zeros k (x / 2))) e

-- the bits below the lowest are unset
trailing_least : (k x j : ℕ) → j < count_trailing_zeros k x → bit x j ≡ false
unfolding count_trailing_zeros
trailing_least zero x j h = absurd (omega arith)
trailing_least (suc k) x zero h =
    ⊎_elim
    (λ (e : x % 2 ≡ 0). bit_low x ∙ ne_eqb (x % 2) 1 (λ q. omega arith))
    (λ (ne : x % 2 ≡ 0 → ⊥). let z = odd_zeros k x (omega arith) in absurd (omega arith))
    (cases_eq (x % 2) 0)
trailing_least (suc k) x (suc j) h =
    ⊎_elim
    (λ (e : x % 2 ≡ 0). let z = even_zeros k x e in bit_half x j ∙ trailing_least k (x / 2) j (omega arith))
    (λ (ne : x % 2 ≡ 0 → ⊥). let z = odd_zeros k x (omega arith) in absurd (omega arith))
    (cases_eq (x % 2) 0)

-- a word that is not 0 has a lowest
trailing_found : (k x : ℕ) → x < 2 ^ k → (x ≡ 0 → ⊥) → bit x (count_trailing_zeros k x) ≡ true
trailing_found zero x h ne = absurd (ne (omega arith))
trailing_found (suc k) x h ne =
    ⊎_elim
    (λ (e : x % 2 ≡ 0).
    let p = pow-suc 2 k in
    ap (bit x) (even_zeros k x e) ∙ bit_half x (count_trailing_zeros k (x / 2)) ∙ trailing_found k (x / 2) (omega arith) (λ z. ne (omega arith)))
    (λ (o : x % 2 ≡ 0 → ⊥). let e : x % 2 ≡ 1 = omega arith in ap (bit x) (odd_zeros k x e) ∙ bit_low x ∙ eq-eqb (x % 2) 1 e)
    (cases_eq (x % 2) 0)

-- a word has no bit past its length
bit_past : (w k j : ℕ) → w < 2 ^ k → k ≤ j → bit w j ≡ false
unfolding bit
bit_past w k j p q =
    let lt : w < 2 ^ j = let z = pow_mono {i = k} {j = j} q in omega arith in
    ap (λ (x : ℕ). eqb (x % 2) 1) (div-eq_of_lt lt)

-- a bit at or above `from`, seen in the word shifted by it
from_shifted : (w from j : ℕ) → from ≤ j → bit w j ≡ bit (w / 2 ^ from) (j - from)
from_shifted w from j h = let z : j ≡ from + (j - from) = omega arith in ap (bit w) z ∙ sym (bit_shr w from (j - from))

pub none_from : (w from j : ℕ) → w / 2 ^ from ≡ 0 → from ≤ j → bit w j ≡ false
none_from w from j e h = from_shifted w from j h ∙ ap (λ (x : ℕ). bit x (j - from)) e ∙ bit_none (j - from)

pub least_from : (w from j : ℕ) → from ≤ j → j < from + count_trailing_zeros 64 (w / 2 ^ from) → bit w j ≡ false
least_from w from j h l = from_shifted w from j h ∙ trailing_least 64 (w / 2 ^ from) (j - from) (omega arith)

-- a set bit lies within the word
pub set_below : (w j : ℕ) → w < 2 ^ 64 → bit w j ≡ true → j < 64
set_below w j h b = ⊎_elim (λ (q : j < 64). q) (λ (q : 64 ≤ j). absurd (both_ways (bit w j) (bit_past w 64 j h q) b)) (cases_lt j 64)

pub found_from : (w from : ℕ) → w < 2 ^ 64 → (w / 2 ^ from ≡ 0 → ⊥) →
    (from + count_trailing_zeros 64 (w / 2 ^ from) < 64) × (bit w (from + count_trailing_zeros 64 (w / 2 ^ from)) ≡ true)
found_from w from h ne =
    let found = sym (bit_shr w from (count_trailing_zeros 64 (w / 2 ^ from))) ∙ trailing_found 64 (w / 2 ^ from) (let z = shr_le w from in omega arith) ne in
    (set_below w (from + count_trailing_zeros 64 (w / 2 ^ from)) h found, found)
