-- What single bytes say: counts, places, and maps of two flags.
use Rattle.std.proofs.Common.{◌≡◌, ℕ, zero, suc, ◌<◌, ◌≤◌, Bool, true, false, refl, arith}
use Rattle.std.proofs.lemmas.Nat.{and_le_r}
use Rattle.std.proofs.lemmas.Bool.{eqb-true}
use Rattle.std.proofs.lemmas.Bool.Decides.{nat_tests}
use Rattle.circuit.specs.Gates.{bit}
use Rattle.field.specs.declared.byte.Field.TheVariants.{Count, Bits, Place}
use Rattle.field.specs.Fields.{admits}
use Rattle.format.specs.Written.{map_of}

-- a count in its range is taken
pub count_taken : (least most b : ℕ) → least ≤ b → b ≤ most → admits (Count least most) b ≡ true
count_taken least most b l h = grind (arith, nat_tests)

-- and so is a place in its range
pub place_taken : (from below b : ℕ) → from ≤ b → b < below → admits (Place from below) b ≡ true
place_taken from below b l h = grind (arith, nat_tests)

-- a map of two flags has both, and no other bits
two_flags : (low high : Bool) → (bit (map_of low high) 0 ≡ low) × (bit (map_of low high) 1 ≡ high) × (admits (Bits 3) (map_of low high) ≡ true)
two_flags false false = (refl, refl, refl)
two_flags false true = (refl, refl, refl)
two_flags true false = (refl, refl, refl)
two_flags true true = (refl, refl, refl)

-- the low flag of a map
pub map_low : (low high : Bool) → bit (map_of low high) 0 ≡ low
map_low low high = (two_flags low high).0

-- its high flag
pub map_high : (low high : Bool) → bit (map_of low high) 1 ≡ high
map_high low high = (two_flags low high).1

-- it is taken as a map
pub map_admitted : (low high : Bool) → admits (Bits 3) (map_of low high) ≡ true
map_admitted low high = (two_flags low high).2

-- and what is taken as a map is that of its two flags
pub map_flags : (map : ℕ) → admits (Bits 3) map ≡ true → map ≡ map_of (bit map 0) (bit map 1)
map_flags map h = below_four map (omega (arith, eqb-true _ _ h, and_le_r map 3))
  where
    below_four : (m : ℕ) → m < 4 → m ≡ map_of (bit m 0) (bit m 1)
    below_four zero l = refl
    below_four (suc zero) l = refl
    below_four (suc (suc zero)) l = refl
    below_four (suc (suc (suc zero))) l = refl
    below_four (suc (suc (suc (suc m)))) l = absurd (omega arith)
