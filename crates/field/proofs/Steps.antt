-- Steps of reading: a byte that is there, and one thing more in a row.
use Rattle.std.proofs.Common.{◌≡◌, ℕ, zero, suc, ◌+◌, ◌-◌, ◌<◌, ◌≤◌, true, List, [], ◌∷◌, ◌++◌, length, get_or, take, drop, Ok, Err, sym, refl, ◌∙◌, arith}
use Rattle.refusal.specs.declared.FileFault.{FileFault}
use Rattle.field.specs.declared.byte.Field.{Field}
use Rattle.std.proofs.lemmas.List.{length-take-le, get_or-take, length_push}
use Rattle.std.proofs.lemmas.Bool.Decides.{nat_tests}
use Rattle.field.specs.declared.byte.Field.TheVariants.{Count, Bits, Place}
use Rattle.field.specs.Rows.{above}
use Rattle.field.specs.Fields.{Reading, admits, Bounds, byte_of, next, many}

-- a byte that its field takes
pub byte_taken : (f : Field) (end : ℕ) (s : List ℕ) → 1 ≤ length s → admits f (get_or s 0 0) ≡ true → byte_of f end s ≡ Ok (get_or s 0 0, drop 1 s)
byte_taken f end [] l h = absurd (omega arith)
byte_taken f end (b ∷ s) l h = rw h

-- it is within the field's bounds
pub bounds_kept : (f : Field) (b : ℕ) → admits f b ≡ true → Bounds f b
bounds_kept (Count least most) b h = (grind (arith, nat_tests), grind (arith, nat_tests))
bounds_kept (Bits known) b h = tt
bounds_kept (Place from below) b h = (grind (arith, nat_tests), grind (arith, nat_tests))

-- the next output is above the last one read
pub above_last : (inputs at : ℕ) (bytes : List ℕ) → 0 < at → at ≤ length bytes → above inputs (take at bytes) ≡ get_or bytes (at - 1) 0 + 1
above_last inputs at bytes l h =
    let last : at - 1 < at = omega arith in
    rw (length-take-le at bytes h, get_or-take at bytes (at - 1) 0 last) (grind (arith, nat_tests))

-- one more of a row, by what reading it gave
pub many_more : {A : Type 0} (read : List A → List ℕ → Reading A) (m n : ℕ) (before : List A) (s : List ℕ) (a : A) (rest : List ℕ) → m ≡ suc n → read before s ≡ Ok (a, rest) → many read m before s ≡ many read n (before ++ a ∷ []) rest
many_more read m n before s a rest e h = rw (e, h)

-- or refused
pub many_refused : {A : Type 0} (read : List A → List ℕ → Reading A) (m : ℕ) (before : List A) (s : List ℕ) (e : FileFault) → 0 < m → read before s ≡ Err e → many read m before s ≡ Err e
many_refused read zero before s e l h = absurd (omega arith)
many_refused read (suc n) before s e l h = rw h

-- the same, whatever the whole row gives
pub row_more : {A : Type 0} (read : List A → List ℕ → Reading A) (m n : ℕ) (before after : List A) (s : List ℕ) (a : A) (rest : List ℕ) (whole : Reading (List A))
    → m ≡ suc n → after ≡ before ++ a ∷ [] → Ok (a, rest) ≡ read before s → many read m before s ≡ whole → many read n after rest ≡ whole
row_more read m n before after s a rest whole e t h w = rw t (sym (many_more read m n before s a rest e (sym h)) ∙ w)

pub row_refused : {A : Type 0} (read : List A → List ℕ → Reading A) (m : ℕ) (before : List A) (s : List ℕ) (e : FileFault) (whole : Reading (List A))
    → 0 < m → Err e ≡ read before s → many read m before s ≡ whole → Err e ≡ whole
row_refused read m before s e whole l h w = sym (many_refused read m before s e l (sym h)) ∙ w

-- readers that agree as long as fewer than m things were read give the same row of m
pub many_same : {A : Type 0} (f g : List A → List ℕ → Reading A) (m : ℕ) → ((before : List A) (s : List ℕ) → length before < m → f before s ≡ g before s)
    → (n : ℕ) (before : List A) (s : List ℕ) → length before + n ≤ m → many f n before s ≡ many g n before s
many_same f g m h zero before s l = refl
many_same {A} f g m h (suc n) before s l =
    rw (h before s (omega arith))
    (elim (g before s) as (λ (v : Reading A). next v (λ a rest. many f n (before ++ a ∷ []) rest) ≡ next v (λ a rest. many g n (before ++ a ∷ []) rest)) [
      | Ok p ↦ many_same f g m h n (before ++ p.0 ∷ []) p.1 (omega (arith, length_push before p.0))
      | Err e ↦ refl
    ])
