-- The numbers that three words hold, from the bits of each.
use Rattle.std.proofs.Common.{◌≡◌, ℕ, zero, suc, ◌+◌, ◌*◌, ◌/◌, ◌%◌, ◌^◌, ◌<◌, Bool, ◌&&◌, List, [], ◌∷◌, length, get_or, sum_by, sym, ap, ◌∙◌, ap₂, mod-eq_of_lt, zero-add, arith}
use lib.Count.{ones}
use Rattle.std.proofs.lemmas.List.{ext_get_or}
use Rattle.std.proofs.lemmas.Bool.{lt-ltb}
use Rattle.fault_set.specs.Members.{tally}
use Rattle.fault_set.proofs.Tally.{tally_same, tally_split}
use Rattle.bit_map.specs.Bits.{bit, in_words}
use Rattle.bit_map.proofs.Digits.{bits_same, ones_tally}

-- what holds at each of the three places
pub each_word : (P : ℕ → Type 0) → P 0 → P 1 → P 2 → (i : ℕ) → i < 3 → P i
each_word P p q r zero h = p
each_word P p q r (suc zero) h = q
each_word P p q r (suc (suc zero)) h = r
each_word P p q r (suc (suc (suc i))) h = absurd (omega arith)

-- bit j of word i is number 64 i + j
at_word : (ws : List ℕ) (i j : ℕ) → i < 3 → j < 64 → in_words ws (64 * i + j) ≡ bit (get_or ws i 0) j
at_word ws i j p q =
    let a : (64 * i + j) / 64 ≡ i = omega arith in
    let b : (64 * i + j) % 64 ≡ j = omega arith in
    ap (λ (x : Bool). x && bit (get_or ws ((64 * i + j) / 64) 0) ((64 * i + j) % 64)) (lt-ltb (64 * i + j) 192 (omega arith)) ∙ ap₂ (λ (x y : ℕ). bit (get_or ws x 0) y) a b

-- words that hold the same numbers are equal
pub words_same : (ws vs : List ℕ) → length ws ≡ 3 → length vs ≡ 3 → ((i : ℕ) → i < 3 → get_or ws i 0 < 2 ^ 64) → ((i : ℕ) → i < 3 → get_or vs i 0 < 2 ^ 64) →
    ((k : ℕ) → in_words ws k ≡ in_words vs k) → ws ≡ vs
words_same ws vs p q w v e =
    ext_get_or 0 ws vs (p ∙ sym q)
    (λ i h. bits_same 64 (get_or ws i 0) (get_or vs i 0) (w i (omega arith)) (v i (omega arith)) (λ j l. sym (at_word ws i j (omega arith) l) ∙ e (64 * i + j) ∙ at_word vs i j (omega arith) l))

-- the numbers are counted word by word
pub held_tally : (ws : List ℕ) → get_or ws 0 0 < 2 ^ 64 → get_or ws 1 0 < 2 ^ 64 → get_or ws 2 0 < 2 ^ 64 →
    ones (get_or ws 0 0) + ones (get_or ws 1 0) + ones (get_or ws 2 0) ≡ tally (in_words ws) 192
held_tally ws p q r =
    let a = in_word 0 (omega arith) p in
    let b = in_word 1 (omega arith) q in
    let d = in_word 2 (omega arith) r in
    let two : tally (in_words ws) 192 ≡ tally (in_words ws) 128 + tally (λ j. in_words ws (128 + j)) 64 = tally_split (in_words ws) 128 64 in
    let one : tally (in_words ws) 128 ≡ tally (in_words ws) 64 + tally (λ j. in_words ws (64 + j)) 64 = tally_split (in_words ws) 64 64 in
    let none : tally (λ j. in_words ws (64 * 0 + j)) 64 ≡ tally (in_words ws) 64 = tally_same (λ j. in_words ws (64 * 0 + j)) (in_words ws) 64 (λ j _. ap (in_words ws) (zero-add j)) in
    omega arith
  where
    in_word : (i : ℕ) → i < 3 → get_or ws i 0 < 2 ^ 64 → ones (get_or ws i 0) ≡ tally (λ j. in_words ws (64 * i + j)) 64
    in_word i h l = ap ones (sym (mod-eq_of_lt l)) ∙ ones_tally 64 (get_or ws i 0) ∙ tally_same (bit (get_or ws i 0)) (λ j. in_words ws (64 * i + j)) 64 (λ j m. sym (at_word ws i j h m))

-- a sum over three words is the sum of the three
pub three_ones : (ws : List ℕ) → length ws ≡ 3 → sum_by ones ws ≡ ones (get_or ws 0 0) + ones (get_or ws 1 0) + ones (get_or ws 2 0)
three_ones [] h = absurd (omega arith)
three_ones (a ∷ []) h = absurd (omega arith)
three_ones (a ∷ b ∷ []) h = absurd (omega arith)
three_ones (a ∷ b ∷ c ∷ []) h = omega arith
three_ones (a ∷ b ∷ c ∷ d ∷ xs) h = absurd (omega arith)
