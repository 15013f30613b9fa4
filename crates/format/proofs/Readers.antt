-- Readers that fit a written form: what they give is what the bytes stand for, and every such piece of bytes is read. Steps, and steps put together.
use Rattle.std.proofs.Common.{◌≡◌, ℕ, zero, suc, ◌<◌, Bool, true, false, cond, List, [], ◌∷◌, ◌++◌, length, get_or, take, Ok, Err, Result, sym, refl, ap, ◌∙◌, append_assoc, arith}
use Rattle.std.proofs.lemmas.List.{append-nil}
use Rattle.field.specs.declared.byte.Field.{Field}
use Rattle.field.specs.declared.row.Row.{Row}
use Rattle.field.specs.Fields.{Reading, admits, byte_of, next, many}
use Rattle.field.specs.Rows.{field_after, row_of}
use Rattle.format.specs.Reading.{optional}

-- `Stands a bytes`: the bytes stand for the value a
pub record Fits {A : Type 0} (read : List ℕ → Reading A) (Stands : A → List ℕ → Type 0) : Type 0 where
  pub sound : (s : List ℕ) (a : A) (rest : List ℕ) → read s ≡ Ok (a, rest) → (bytes : List ℕ) × Stands a bytes × (s ≡ bytes ++ rest)
  pub complete : (a : A) (bytes rest : List ℕ) → Stands a bytes → read (bytes ++ rest) ≡ Ok (a, rest)

-- a refusal is no answer
pub err_ok : {A E : Type 0} {e : E} {a : A} → ◌≡◌ {A = Result A E} (Err e) (Ok a) → ⊥
err_ok h = let z : ◌≡◌ {A = ℕ} 0 1 = cc in omega arith

-- equal answers have equal parts
pub ok_same : {A : Type 0} {a b : A} {s t : List ℕ} → ◌≡◌ {A = Reading A} (Ok (a, s)) (Ok (b, t)) → (a ≡ b) × (s ≡ t)
ok_same {A} {a} {b} {s} {t} e = let p : ◌≡◌ {A = A × List ℕ} (a, s) (b, t) = cc in (ap (λ q. q.0) p, ap (λ q. q.1) p)

-- an answer after a test that may refuse
pub past_test : {A E : Type 0} {a : A} (test : Bool) (e : E) (r : Result A E) → ◌≡◌ {A = Result A E} (cond test (Err e) r) (Ok a) → (test ≡ false) × (r ≡ Ok a)
past_test true e r h = absurd (err_ok h)
past_test false e r h = (refl, h)

-- an answer where a test must pass
passed : {A E : Type 0} {a : A} (test : Bool) (r : Result A E) (e : E) → ◌≡◌ {A = Result A E} (cond test r (Err e)) (Ok a) → (test ≡ true) × (r ≡ Ok a)
passed true r e h = (refl, h)
passed false r e h = absurd (err_ok h)

-- an answer after another
next_ok : {A B : Type 0} {q : B × List ℕ} (r : Reading A) (then : A → List ℕ → Reading B) → next r then ≡ Ok q → (p : A × List ℕ) × (r ≡ Ok p) × (then p.0 p.1 ≡ Ok q)
next_ok (Ok p) then h = (p, refl, h)
next_ok (Err e) then h = absurd (err_ok h)

-- a byte that its field takes
abbrev pub ByteStands : Field → ℕ → List ℕ → Type 0
ByteStands f b bytes = (admits f b ≡ true) × (bytes ≡ b ∷ [])

-- what is read is such a byte
byte_sound : (f : Field) (end : ℕ) (s : List ℕ) (a : ℕ) (rest : List ℕ) → byte_of f end s ≡ Ok (a, rest) → (bytes : List ℕ) × ByteStands f a bytes × (s ≡ bytes ++ rest)
byte_sound f end [] a rest h = absurd (err_ok h)
byte_sound f end (b ∷ s) a rest h =
    let q = passed (admits f b) _ _ h in
    let e = ok_same q.1 in
    (b ∷ [], rw (← e.0) (q.0, refl), ap (λ (t : List ℕ). b ∷ t) e.1)

-- and such a byte is read
pub byte_fits : (f : Field) (end : ℕ) → Fits (byte_of f end) (ByteStands f)
byte_fits f end = record {
  sound = byte_sound f end;
  complete = λ b bytes rest h. rw (h.1, h.0);
}

-- a value that stands in no bytes
pub pure_fits : {A : Type 0} (a : A) → Fits (λ s. Ok (a, s)) (λ b bytes. (b ≡ a) × (bytes ≡ []))
pure_fits a = record {
  sound = λ s b rest h. ([], (sym (ok_same h).0, refl), (ok_same h).1);
  complete = λ b bytes rest h. rw (h.0, h.1);
}

-- one thing after another
pub record Both {A B : Type 0} (First : A → List ℕ → Type 0) (Second : A → B → List ℕ → Type 0) (b : B) (bytes : List ℕ) : Type 0 where
  pub value : A
  pub left : List ℕ
  pub right : List ℕ
  pub first : First value left
  pub second : Second value b right
  pub is : bytes ≡ left ++ right

module _ {A B : Type 0} {First : A → List ℕ → Type 0} {Second : A → B → List ℕ → Type 0} {read : List ℕ → Reading A} {then : A → List ℕ → Reading B}
    (p : Fits read First) (q : (a : A) → Fits (then a) (Second a)) where
  -- what is read is one thing after another
  next_sound : (s : List ℕ) (b : B) (rest : List ℕ) → next (read s) then ≡ Ok (b, rest) → (bytes : List ℕ) × Both First Second b bytes × (s ≡ bytes ++ rest)
  next_sound s b rest h =
      let x = next_ok (read s) then h in
      let u = p.sound s x.0.0 x.0.1 x.1 in
      let v = (q x.0.0).sound x.0.1 b rest x.2 in
      (u.0 ++ v.0, record { value = x.0.0; left = u.0; right = v.0; first = u.1; second = v.1; is = refl }, u.2 ∙ ap (λ (t : List ℕ). u.0 ++ t) v.2 ∙ sym (append_assoc u.0 v.0 rest))

  -- and these are read
  next_complete : (b : B) (bytes rest : List ℕ) → Both First Second b bytes → next (read (bytes ++ rest)) then ≡ Ok (b, rest)
  next_complete b bytes rest h =
      rw (h.is, append_assoc h.left h.right rest, p.complete h.value h.left (h.right ++ rest) h.first) ((q h.value).complete b h.right rest h.second)

  -- reading one thing after another fits
  pub next_fits : Fits (λ s. next (read s) then) (Both First Second)
  next_fits = record { sound = next_sound; complete = next_complete }

-- the same bytes, said in other words
pub fits_like : {A : Type 0} {P Q : A → List ℕ → Type 0} {read : List ℕ → Reading A} → Fits read P → ((a : A) (bytes : List ℕ) → P a bytes → Q a bytes) → ((a : A) (bytes : List ℕ) → Q a bytes → P a bytes) → Fits read Q
fits_like p to from = record {
  sound = λ s a rest h. let u = p.sound s a rest h in (u.0, to a u.0 u.1, u.2);
  complete = λ a bytes rest h. p.complete a bytes rest (from a bytes h);
}

-- the last thing, and the value that is made of it
abbrev pub Last : {A B : Type 0} → (A → B) → (A → List ℕ → Type 0) → B → List ℕ → Type 0
Last {A} make Stands b bytes = (a : A) × (b ≡ make a) × Stands a bytes

-- reading it fits
pub last_fits : {A B : Type 0} {Stands : A → List ℕ → Type 0} {read : List ℕ → Reading A} {make : A → B} → Fits read Stands → Fits (λ s. next (read s) (λ a rest. Ok (make a, rest))) (Last make Stands)
last_fits {make = make} p =
    fits_like (next_fits p (λ a. pure_fits (make a)))
    (λ b bytes h. (h.value, h.second.0, rw (h.is, h.second.1, append-nil h.left) h.first))
    (λ b bytes h. record { value = h.0; left = bytes; right = []; first = h.2; second = (h.1, refl); is = sym (append-nil bytes) })

-- a part that stands in the bytes only where its flag is set
abbrev pub Perhaps : {A : Type 0} → Bool → A → (A → List ℕ → Type 0) → A → List ℕ → Type 0
Perhaps true absent Stands a bytes = Stands a bytes
Perhaps false absent Stands a bytes = (a ≡ absent) × (bytes ≡ [])

-- reading such a part fits
pub optional_fits : {A : Type 0} {Stands : A → List ℕ → Type 0} {read : List ℕ → Reading A} (flag : Bool) (absent : A) → Fits read Stands → Fits (optional flag absent read) (Perhaps flag absent Stands)
optional_fits true absent p = p
optional_fits false absent p = pure_fits absent

-- n things in a row
pub data Chain {A : Type 0} (Stands : List A → A → List ℕ → Type 0) : List A → List A → List ℕ → Type 0 where
  none : {before : List A} → Chain Stands before [] []
  more : {before items : List A} {a : A} {left right : List ℕ} → Stands before a left → Chain Stands (before ++ a ∷ []) items right → Chain Stands before (a ∷ items) (left ++ right)

-- so many more, after those before
pub record RowOf {A : Type 0} (Stands : List A → A → List ℕ → Type 0) (n : ℕ) (before : List A) (all : List A) (bytes : List ℕ) : Type 0 where
  pub items : List A
  pub count : length items ≡ n
  pub is : all ≡ before ++ items
  pub chain : Chain Stands before items bytes

module _ {A : Type 0} {Stands : List A → A → List ℕ → Type 0} {step : List A → List ℕ → Reading A} (p : (before : List A) → Fits (step before) (Stands before)) where
  -- what is read is so many things in a row
  many_sound : (n : ℕ) (before : List A) (s : List ℕ) (all : List A) (rest : List ℕ) → many step n before s ≡ Ok (all, rest) → (bytes : List ℕ) × RowOf Stands n before all bytes × (s ≡ bytes ++ rest)
  many_sound zero before s all rest h =
      ([], record { items = []; count = refl; is = sym (ok_same h).0 ∙ sym (append-nil before); chain = none }, (ok_same h).1)
  many_sound (suc n) before s all rest h =
      let x = next_ok (step before s) _ h in
      let u = (p before).sound s x.0.0 x.0.1 x.1 in
      let v = many_sound n (before ++ x.0.0 ∷ []) x.0.1 all rest x.2 in (
        u.0 ++ v.0,
        record { items = x.0.0 ∷ v.1.items; count = ap suc v.1.count; is = v.1.is ∙ append_assoc before (x.0.0 ∷ []) v.1.items; chain = more u.1 v.1.chain },
        u.2 ∙ ap (λ (t : List ℕ). u.0 ++ t) v.2 ∙ sym (append_assoc u.0 v.0 rest),
      )

  -- and these are read
  chain_complete : {before items : List A} {bytes : List ℕ} (rest : List ℕ) → Chain Stands before items bytes → many step (length items) before (bytes ++ rest) ≡ Ok (before ++ items, rest)
  chain_complete {before} rest none = rw (append-nil before)
  chain_complete {before} rest (more {items = items} {a = a} {left = left} {right = right} h c) =
      rw (append_assoc left right rest, (p before).complete a left (right ++ rest) h) (chain_complete rest c ∙ rw (append_assoc before (a ∷ []) items))

  -- reading things in a row fits
  pub many_fits : (n : ℕ) (before : List A) → Fits (many step n before) (RowOf Stands n before)
  many_fits n before = record {
    sound = many_sound n before;
    complete = λ all bytes rest h. rw (h.is, sym h.count) (chain_complete rest h.chain);
  }

-- each byte of a row is one that its field takes, after those before it
abbrev pub Admitted : Row → List ℕ → Type 0
Admitted row bytes = (i : ℕ) → i < length bytes → admits (field_after row (take i bytes)) (get_or bytes i 0) ≡ true

-- the bytes of a row stand for themselves
pub record RowStands (row : Row) (n : ℕ) (all bytes : List ℕ) : Type 0 where
  pub count : length all ≡ n
  pub admitted : Admitted row all
  pub is : bytes ≡ all

-- bytes read in a row stand for themselves, and each is taken
row_chain : (row : Row) {before items bytes : List ℕ} → Chain (λ done. ByteStands (field_after row done)) before items bytes
    → (bytes ≡ items) × ((i : ℕ) → i < length items → admits (field_after row (before ++ take i items)) (get_or items i 0) ≡ true)
row_chain row none = (refl, λ i l. absurd (omega arith))
row_chain row {before} (more {items = items} {a = a} {right = right} h c) =
    let w = row_chain row c in
    (rw h.1 (ap (λ (t : List ℕ). a ∷ t) w.0), here w.1)
  where
    here : ((i : ℕ) → i < length items → admits (field_after row ((before ++ a ∷ []) ++ take i items)) (get_or items i 0) ≡ true) → (i : ℕ) → i < length (a ∷ items) → admits (field_after row (before ++ take i (a ∷ items))) (get_or (a ∷ items) i 0) ≡ true
    here later zero l = rw (append-nil before) h.0
    here later (suc i) l = rw (sym (append_assoc before (a ∷ []) (take i items))) (later i (omega arith))

-- and the other way round
chain_row : (row : Row) (before items : List ℕ) → ((i : ℕ) → i < length items → admits (field_after row (before ++ take i items)) (get_or items i 0) ≡ true) → Chain (λ done. ByteStands (field_after row done)) before items items
chain_row row before [] h = none
chain_row row before (a ∷ items) h =
    more {left = a ∷ []} (let z = h 0 (omega arith) in (rw (append-nil before) at z), refl)
    (chain_row row (before ++ a ∷ []) items (λ i l. rw (append_assoc before (a ∷ []) (take i items)) (h (suc i) (omega arith))))

-- reading a row of bytes fits
pub row_fits : (row : Row) (n end : ℕ) → Fits (row_of row n end) (RowStands row n)
row_fits row n end =
    fits_like (many_fits (λ done. byte_fits (field_after row done) end) n [])
    (λ all bytes h. let w = row_chain row h.chain in record { count = rw h.is h.count; admitted = rw h.is w.1; is = w.0 ∙ sym h.is })
    (λ all bytes h. record { items = all; count = h.count; is = refl; chain = rw h.is (chain_row row [] all h.admitted) })
