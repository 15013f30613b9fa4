-- A table is filled: how far it is, and one thing more.
use Rattle.std.proofs.Common.{◌≡◌, ℕ, zero, suc, ◌+◌, ◌-◌, ◌<◌, ◌≤◌, List, [], ◌∷◌, ◌++◌, map, length, take, drop, set, Ok, Err, Result, Bor, refl, sym, ap, ◌∙◌, arith}
use Rattle.std.proofs.lemmas.List.{length-take-le, take_all, length-set, take_more_set, map_push, drop-drop, drop-set-lt}
use Rattle.refusal.specs.declared.FileFault.{FileFault}
use Rattle.field.specs.declared.unread.Unread.{Unread}
use Rattle.field.specs.Fields.{Reading, next, many}
use Rattle.field.specs.Answers.{ReadAs, Each, Told, BrokenOff, in_a_row}
use Rattle.field.proofs.Steps.{many_more, many_refused}

-- so many things, and then so many more
many_then : {A : Type 0} (read : List A → List ℕ → Reading A) (m n k : ℕ) (before : List A) (s : List ℕ) → k ≡ m + n → many read k before s ≡ next (many read m before s) (λ b rest. many read n b rest)
many_then read zero n k before s e =
    let same : k ≡ n = omega (arith, e) in rw same refl
many_then {A} read (suc m) n k before s e =
    let more : k ≡ suc (m + n) = omega (arith, e) in
    rw more
    (elim (read before s) as (λ (v : Reading A). next v (λ a rest. many read (m + n) (before ++ a ∷ []) rest) ≡ next (next v (λ a rest. many read m (before ++ a ∷ []) rest)) (λ b rest. many read n b rest)) [
      | Ok p ↦ many_then read m n (m + n) (before ++ p.0 ∷ []) p.1 refl
      | Err f ↦ refl
    ])

-- what comes after the first m things
then : {A : Type 0} (read : List A → List ℕ → Reading A) (m n : ℕ) (s : List ℕ) (b : List A) (r : List ℕ) → Ok (b, r) ≡ many read m [] s → many read (m + n) [] s ≡ many read n b r
then read m n s b r e = many_then read m n (m + n) [] s refl ∙ ap (λ v. next v (λ c rest. many read n c rest)) (sym e)

-- tables that are alike from a place on are so from the next one on
next_places : {A : Type 0} (xs ys : List A) (n : ℕ) → drop n xs ≡ drop n ys → drop (n + 1) xs ≡ drop (n + 1) ys
next_places xs ys n e = sym (drop-drop 1 n xs) ∙ ap (λ l. drop 1 l) e ∙ drop-drop 1 n ys

module _ {A : Type 0} (Call : Bor (List A) → Unread → Result (A × Unread) FileFault → Type 0) (old : List A) (s : Unread) where
  -- the first places hold what the first steps give, and the others are as they were
  pub record Far (at : ℕ) (table : List A) (left : Unread) : Type 0 where
    pub room : length table ≡ length old
    pub kept : drop at table ≡ drop at old
    pub told : Told Call at s (Ok (take at table, left))

  -- at the start there are none
  pub filled_none : (table : List A) → table ≡ old → Far 0 table s
  filled_none table e = record { room = ap length e; kept = e; told = record { by = λ view step each. (refl, refl) } }

  -- at the end the table holds them all
  pub filled_whole : (table : List A) (left : Unread) (at : ℕ) → length old ≤ at → at ≤ length old → Far at table left → Told Call (length old) s (Ok (table, left))
  filled_whole table left at e l f =
      let end : at ≡ length old = omega arith in
      let all : length table ≤ at = omega (arith, f.room) in
      rw (sym end) (rw (take_all at table all) at f.told)

  module _ (table : List A) (left : Unread) (at : ℕ) (before : Bor (List A)) (lt : at < length old) (is : before.now ≡ take at table) (f : Far at table left) where
    long : length before.now ≡ at
    long = rw (is, length-take-le at table (omega (arith, f.room))) refl

    few : length before.now < at + 1
    few = omega (arith, long)

    -- what the step says of the thing at this place
    here : (view : A → A) (step : List A → ℕ → List ℕ → Reading A) (r : Result (A × Unread) FileFault) → Call before left r → Each Call (at + 1) view step → ReadAs view (step (map view before.now)) left r
    here view step r call each = each before left r few call

    -- and of those before it
    past : (view : A → A) (step : List A → ℕ → List ℕ → Reading A) → Each Call (at + 1) view step → ReadAs (map view) (in_a_row step at) s (Ok (take at table, left))
    past view step each = f.told.by view step (λ b u r l call. each b u r (omega arith) call)

    -- one thing more
    pub filled_more : (rest : Unread) (thing : A) → Call before left (Ok (thing, rest)) → Far (at + 1) (set table at thing) rest
    filled_more rest thing call = record {
      room = length-set table at thing ∙ f.room;
      kept = drop-set-lt (at + 1) table at thing (omega arith) ∙ next_places table old at f.kept;
      told = record {
        by = λ view step each.
            let p = past view step each in
            let h = here view step (Ok (thing, rest)) call each in (
              h.0 ∙ p.0,
              ap (λ l. Ok (l, rest.rest.now)) (ap (map view) (take_more_set table at thing (omega (arith, f.room))) ∙ map_push view (take at table) thing)
                  ∙ sym (then _ at 1 s.rest.now _ _ p.1 ∙ many_more (λ b. step b s.end) 1 0 _ left.rest.now (view thing) rest.rest.now refl (sym (rw (is, p.0) at h.1))),
            );
      };
    }

    -- or one that is refused
    pub filled_refused : (e : FileFault) → Call before left (Err e) → Told Call (length old) s (Err e)
    filled_refused e call = record {
      by = λ view step each.
          let each_here : Each Call (at + 1) view step = λ b u r l c. each b u r (omega arith) c in
          let p = past view step each_here in
          let h = here view step (Err e) call each_here in
          let left_over = length old - (at + 1) in
          let parts : length old ≡ at + suc left_over = omega arith in
          rw parts (sym (then _ at (suc left_over) s.rest.now _ _ p.1 ∙ many_refused (λ b. step b s.end) (suc left_over) _ left.rest.now e (omega arith) (sym (rw (is, p.0) at h))));
    }

  pub broken_off : (table : List A) (left : Unread) (at : ℕ) → at < length old → Far at table left → BrokenOff Call old s table
  broken_off table left at lt f = (at, lt, f.kept, (left, f.told))
