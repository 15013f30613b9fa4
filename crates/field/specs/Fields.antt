-- What comes of reading a file field by field: a value with what is left of the file, or the first refusal.
use Rattle.std.specs.Prelude.{ℕ, zero, suc, ◌-◌, ◌<◌, ◌≤◌, Bool, cond, ◌&&◌, List, [], ◌∷◌, ◌++◌, length, Ok, Err, Result, ◌==◌, bit_and, nat_le, nat_lt}
use Rattle.refusal.specs.declared.FileFault.{FileFault}
use Rattle.refusal.specs.declared.FileFault.TheVariants.{Short, Range, Stray, Nowhere}
use Rattle.field.specs.declared.byte.Field.{Field}
use Rattle.field.specs.declared.byte.Field.TheVariants.{Count, Bits, Place}

abbrev pub Reading : Type 0 → Type 0
Reading A = Result (A × List ℕ) FileFault

abbrev pub admits : Field → ℕ → Bool
admits (Count least most) b = nat_le least b && nat_le b most
admits (Bits known) b = bit_and b known == b
admits (Place from below) b = nat_le from b && nat_lt b below

-- the bounds that a byte which is taken keeps
abbrev pub Bounds : Field → ℕ → Type 0
Bounds (Count least most) b = (least ≤ b) × (b ≤ most)
Bounds (Bits known) b = Unit {0}
Bounds (Place from below) b = (from ≤ b) × (b < below)

abbrev pub refusal : Field → ℕ → FileFault
refusal (Count least most) place = Range place
refusal (Bits known) place = Stray place
refusal (Place from below) place = Nowhere place

-- the first byte of what is left of a file of `end` bytes
abbrev pub byte_of : Field → ℕ → List ℕ → Reading ℕ
byte_of f end [] = Err (Short end)
byte_of f end (b ∷ s) = cond (admits f b) (Ok (b, s)) (Err (refusal f (end - length (b ∷ s))))

-- one thing after another
abbrev pub next : {A B : Type 0} → Reading A → (A → List ℕ → Reading B) → Reading B
next (Ok p) f = f p.0 p.1
next (Err e) f = Err e

-- n things in a row, each read in the light of those before it
abbrev pub many : {A : Type 0} → (List A → List ℕ → Reading A) → ℕ → List A → List ℕ → Reading (List A)
many read zero before s = Ok (before, s)
many read (suc n) before s = next (read before s) (λ a rest. many read n (before ++ a ∷ []) rest)
