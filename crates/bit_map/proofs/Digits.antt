-- The bits of a word under the operations on it.
use Rattle.std.proofs.Common.{◌≡◌, ℕ, zero, suc, ◌+◌, ◌-◌, ◌*◌, ◌/◌, ◌%◌, ◌^◌, ◌<◌, Bool, true, false, not, ◌&&◌, ◌||◌, eqb, sym, refl, ap, ◌∙◌, ap₂, mod-lt, pow-suc, arith, pow_pos}
use lib.Bits.{bit_and, bit_or, and_mask, and_shr, or_shr, and_mod, or_mod}
use lib.Count.{ones, ones_cat}
use Rattle.std.proofs.lemmas.Bool.{ne_eqb, eq-eqb}
use Rattle.std.proofs.lemmas.Nat.{shr-shr, mod-pow-add}
use Rattle.std.proofs.lemmas.Bool.Decides.{nat_tests}
use Rattle.fault_set.specs.Members.{one, tally}
use Rattle.bit_map.specs.Bits.{bit}

-- an operation that goes bit by bit, and what it does to one bit
module _ (op : ℕ → ℕ → ℕ) (rule : Bool → Bool → Bool)
    (shr : (a b k : ℕ) → op a b / 2 ^ k ≡ op (a / 2 ^ k) (b / 2 ^ k))
    (low : (a b k : ℕ) → op a b % 2 ^ k ≡ op (a % 2 ^ k) (b % 2 ^ k))
    (none : eqb (op 0 0) 1 ≡ rule false false) (right : eqb (op 0 1) 1 ≡ rule false true)
    (left : eqb (op 1 0) 1 ≡ rule true false) (all : eqb (op 1 1) 1 ≡ rule true true) where
  one_bit : (x y : ℕ) → x < 2 → y < 2 → eqb (op x y) 1 ≡ rule (eqb x 1) (eqb y 1)
  one_bit zero zero p q = none
  one_bit zero (suc zero) p q = right
  one_bit (suc zero) zero p q = left
  one_bit (suc zero) (suc zero) p q = all
  one_bit (suc (suc x)) y p q = absurd (omega arith)
  one_bit zero (suc (suc y)) p q = absurd (omega arith)
  one_bit (suc zero) (suc (suc y)) p q = absurd (omega arith)

  bit_op : (a b j : ℕ) → bit (op a b) j ≡ rule (bit a j) (bit b j)
  unfolding bit
  bit_op a b j =
      let e : op a b / 2 ^ j % 2 ≡ op (a / 2 ^ j % 2) (b / 2 ^ j % 2) = ap (λ (x : ℕ). x % 2) (shr a b j) ∙ low (a / 2 ^ j) (b / 2 ^ j) 1 in
      ap (λ (x : ℕ). eqb x 1) e ∙ one_bit (a / 2 ^ j % 2) (b / 2 ^ j % 2) (omega arith) (omega arith)

pub bit_of_or : (a b j : ℕ) → bit (bit_or a b) j ≡ (bit a j || bit b j)
bit_of_or = bit_op bit_or ◌||◌ or_shr or_mod refl refl refl refl

pub bit_of_and : (a b j : ℕ) → bit (bit_and a b) j ≡ (bit a j && bit b j)
bit_of_and = bit_op bit_and ◌&&◌ and_shr and_mod refl refl refl refl

-- the bits of what is shifted stand lower
pub bit_shr : (w k j : ℕ) → bit (w / 2 ^ k) j ≡ bit w (k + j)
unfolding bit
bit_shr w k j = ap (λ (x : ℕ). eqb (x % 2) 1) (shr-shr w k j)

-- `(w >> j) & 1 == 1` reads bit j
pub bit_read : (w j : ℕ) → eqb (bit_and (w / 2 ^ j) 1) 1 ≡ bit w j
unfolding bit
bit_read w j = ap (λ (x : ℕ). eqb x 1) (and_mask (w / 2 ^ j) 1)

pub bit_low : (a : ℕ) → bit a 0 ≡ eqb (a % 2) 1
unfolding bit
bit_low a = ap (λ (x : ℕ). eqb (x % 2) 1) (omega arith)

pub bit_half : (a j : ℕ) → bit a (suc j) ≡ bit (a / 2) j
bit_half a j = let e : suc j ≡ 1 + j = omega arith in ap (bit a) e ∙ sym (bit_shr a 1 j)

pub bit_none : (j : ℕ) → bit 0 j ≡ false
unfolding bit
bit_none zero = refl
bit_none (suc j) = bit_half 0 j ∙ bit_none j

-- a power of two has one bit
pub bit_pow : (i j : ℕ) → bit (2 ^ i) j ≡ eqb j i
unfolding bit
bit_pow zero zero = refl
bit_pow zero (suc j) = bit_half 1 j ∙ bit_none j ∙ sym (ne_eqb (suc j) 0 (λ e. omega arith))
bit_pow (suc i) zero = bit_low (2 ^ suc i) ∙ ne_eqb (2 ^ suc i % 2) 1 (λ e. omega (arith, pow-suc 2 i)) ∙ sym (ne_eqb 0 (suc i) (λ e. omega arith))
bit_pow (suc i) (suc j) = bit_half (2 ^ suc i) j ∙ ap (λ (x : ℕ). bit x j) (omega (arith, pow-suc 2 i)) ∙ bit_pow i j ∙ grind (arith, nat_tests)

-- `!a` in a word of k bits
not_one : (x y : ℕ) → x < 2 → y + x ≡ 1 → eqb y 1 ≡ not (eqb x 1)
not_one zero y p e = eq-eqb y 1 (omega arith)
not_one (suc zero) y p e = ne_eqb y 1 (λ q. omega arith)
not_one (suc (suc x)) y p e = absurd (omega arith)

pub bit_not : (k a j : ℕ) → a < 2 ^ k → j < k → bit (2 ^ k - 1 - a) j ≡ not (bit a j)
bit_not zero a j h l = absurd (omega arith)
bit_not (suc k) a zero h l =
    let p = pow-suc 2 k in
    bit_low (2 ^ suc k - 1 - a) ∙ not_one (a % 2) ((2 ^ suc k - 1 - a) % 2) (omega arith) (omega arith) ∙ ap not (sym (bit_low a))
bit_not (suc k) a (suc j) h l =
    let p = pow-suc 2 k in
    let e : (2 ^ suc k - 1 - a) / 2 ≡ 2 ^ k - 1 - a / 2 = omega arith in
    bit_half (2 ^ suc k - 1 - a) j ∙ ap (λ (x : ℕ). bit x j) e ∙ bit_not k (a / 2) j (omega arith) (omega arith) ∙ ap not (sym (bit_half a j))

-- `a & !b` in a word of 64 bits
abbrev pub and_not : ℕ → ℕ → ℕ
and_not a b = bit_and a (2 ^ 64 - 1 - b)

pub bit_and_not : (a b j : ℕ) → b < 2 ^ 64 → j < 64 → bit (and_not a b) j ≡ (bit a j && not (bit b j))
bit_and_not a b j h l = bit_of_and a (2 ^ 64 - 1 - b) j ∙ ap (λ (c : Bool). bit a j && c) (bit_not 64 b j h l)

-- words with the same bits are equal
one_same : (x y : ℕ) → x < 2 → y < 2 → eqb x 1 ≡ eqb y 1 → x ≡ y
one_same x y p q e = grind (arith, nat_tests)

pub bits_same : (k a b : ℕ) → a < 2 ^ k → b < 2 ^ k → ((j : ℕ) → j < k → bit a j ≡ bit b j) → a ≡ b
bits_same zero a b p q f = omega arith
bits_same (suc k) a b p q f =
    let w = pow-suc 2 k in
    let low : a % 2 ≡ b % 2 = one_same (a % 2) (b % 2) (omega arith) (omega arith) (sym (bit_low a) ∙ f 0 (omega arith) ∙ bit_low b) in
    let high : a / 2 ≡ b / 2 = bits_same k (a / 2) (b / 2) (omega arith) (omega arith) (λ j h. sym (bit_half a j) ∙ f (suc j) (omega arith) ∙ bit_half b j) in
    omega arith

-- the set bits of a word, counted
ones_one : (x : ℕ) → x < 2 → ones x ≡ one (eqb x 1)
unfolding ones
ones_one zero p = refl
ones_one (suc zero) p = refl
ones_one (suc (suc x)) p = absurd (omega arith)

pub ones_tally : (k w : ℕ) → ones (w % 2 ^ k) ≡ tally (bit w) k
unfolding tally bit
ones_tally zero w = ap ones (omega arith) ∙ ones_one 0 (omega arith)
ones_tally (suc k) w =
    let cut : w % 2 ^ suc k ≡ (w / 2 ^ k % 2) * 2 ^ k + w % 2 ^ k = ap (λ (x : ℕ). w % 2 ^ x) (omega arith) ∙ mod-pow-add w 1 k in
    ap ones cut ∙ ones_cat k (w / 2 ^ k % 2) (w % 2 ^ k) (mod-lt w (pow_pos k)) ∙ ap₂ (λ (x y : ℕ). x + y) (ones_one (w / 2 ^ k % 2) (omega arith)) (ones_tally k w) ∙ omega arith
