-- Fault n goes into the tables, or has no place in them.
use Rattle.std.proofs.Common.{◌≡◌, ℕ, ◌+◌, ◌-◌, ◌<◌, ◌≤◌, Bool, true, false, cond, ◌&&◌, eqb, ltb, List, length, get_or, set, replicate, Some, None, Option, sym, refl, ap, ◌∙◌, subst, ap₂, ⊎_elim, arith}
use Rattle.std.specs.List.{slice_get}
use Rattle.std.proofs.lemmas.List.{length-set, get_or-set_same, get_or-set_other, get_or-replicate}
use Rattle.std.proofs.lemmas.Bool.{cases_eq, cases_Bool, both_ways, eqb-true, eq-eqb, ne_eqb, ltb-true, and_parts, true≢false}
use Rattle.circuit.specs.declared.site.Site.{Site}
use Rattle.circuit.specs.declared.site.Site.TheVariants.{Stem, Pin}
use Rattle.circuit.specs.declared.site.Fault.{Fault}
use Rattle.circuit.specs.declared.site.FaultList.{FaultList}
use Rattle.circuit.specs.Chips.{same_site}
use Rattle.site_index.specs.Sites.{fault_of, sits_at, on_table, place, place_of, numbers_from, Firsts, Nexts}
use Rattle.site_index.proofs.Leading.{sits_below, numbers_at}

pub one_site : (s t : Site) → same_site s t ≡ true → s ≡ t
one_site (Stem x) (Stem y) e = ap Stem (eqb-true x y e)
one_site (Stem x) (Pin y j) e = absurd (true≢false (sym e))
one_site (Pin x i) (Stem y) e = absurd (true≢false (sym e))
one_site (Pin x i) (Pin y j) e = let p = and_parts (eqb x y) (eqb i j) e in ap₂ Pin (eqb-true x y p.0) (eqb-true i j p.1)

pub same_self : (s : Site) → same_site s s ≡ true
same_self (Stem x) = eq-eqb x x refl
same_self (Pin x i) = ap₂ ◌&&◌ (eq-eqb x x refl) (eq-eqb i i refl)

pub place_within : (s : Site) → on_table s ≡ true → place s < 432
place_within (Stem x) p = let a = ltb-true x 48 p in omega arith
place_within (Pin x i) p =
    let q = and_parts (ltb x 48) (ltb i 8) p in
    let a = ltb-true x 48 q.0 in
    let b = ltb-true i 8 q.1 in omega arith

same_place : (s t : Site) → on_table s ≡ true → on_table t ≡ true → place s ≡ place t → s ≡ t
same_place (Stem x) (Stem y) p q e = ap Stem e
same_place (Stem x) (Pin y j) p q e = let a = ltb-true x 48 p in absurd (omega arith)
same_place (Pin x i) (Stem y) p q e = let a = ltb-true y 48 q in absurd (omega arith)
same_place (Pin x i) (Pin y j) p q e =
    let a = ltb-true i 8 (and_parts (ltb x 48) (ltb i 8) p).1 in
    let b = ltb-true j 8 (and_parts (ltb y 48) (ltb j 8) q).1 in
    let lines : x ≡ y = omega arith in
    let pins : i ≡ j = omega arith in
    ap₂ Pin lines pins

some_place : (b : Bool) (q p : ℕ) → cond b (Some q) None ≡ Some p → (b ≡ true) × (q ≡ p)
some_place true q p e = (refl, cc)
some_place false q p e = let z : ◌≡◌ {A = ℕ} 0 1 = cc in absurd (omega arith)

no_place : (b : Bool) (q : ℕ) → cond b (Some q) None ≡ None → b ≡ false
no_place true q e = let z : ◌≡◌ {A = ℕ} 0 1 = cc in absurd (omega arith)
no_place false q e = refl

-- a fault with a place sits at the site of that place, and at no other
place_tells : (f : Option Fault) (p : ℕ) → place_of f ≡ Some p → (s : Site) → on_table s ≡ true → sits_at s f ≡ eqb p (place s)
place_tells None p e s on = let z : ◌≡◌ {A = ℕ} 0 1 = cc in absurd (omega arith)
place_tells (Some f) p e s on =
    let w = some_place (on_table f.site) (place f.site) p e in
    ⊎_elim
    (λ (h : same_site f.site s ≡ true). h ∙ sym (eq-eqb p (place s) (sym w.1 ∙ ap place (one_site f.site s h))))
    (λ (h : same_site f.site s ≡ false). h
    ∙ sym (ne_eqb p (place s) (λ q. both_ways (same_site f.site s) h (ap (same_site f.site) (sym (same_place f.site s w.0 on (w.1 ∙ q))) ∙ same_self f.site))))
    (cases_Bool (same_site f.site s))

-- one with no place sits at no site of the table
no_place_tells : (f : Option Fault) → place_of f ≡ None → (s : Site) → on_table s ≡ true → sits_at s f ≡ false
no_place_tells None e s on = refl
no_place_tells (Some f) e s on = ⊎_elim
    (λ (h : same_site f.site s ≡ true). absurd (both_ways (on_table s) (ap on_table (sym (one_site f.site s h)) ∙ no_place (on_table f.site) (place f.site) e) on))
    (λ (h : same_site f.site s ≡ false). h)
    (cases_Bool (same_site f.site s))

placed_within : (f : Option Fault) (p : ℕ) → place_of f ≡ Some p → p < 432
placed_within None p e = let z : ◌≡◌ {A = ℕ} 0 1 = cc in absurd (omega arith)
placed_within (Some f) p e =
    let w = some_place (on_table f.site) (place f.site) p e in
    subst (λ (q : ℕ). q < 432) w.1 (place_within f.site w.0)

-- both tables at once: their lengths, and that they are right from a number on
pub record RightTables (list : FaultList) (from : ℕ) (first next : List (Option ℕ)) : Type 0 where
  pub wide : length first ≡ 432
  pub long : length next ≡ 192
  pub firsts : Firsts list from first
  pub nexts : Nexts list from next

-- the same as one word, which proofs pass on whole
unfoldable pub Right : FaultList → ℕ → List (Option ℕ) → List (Option ℕ) → Type 0
Right list from first next = RightTables list from first next

pub tables : (list : FaultList) (from : ℕ) (first next : List (Option ℕ)) → Right list from first next → RightTables list from first next
unfolding Right
tables list from first next r = r

-- with nothing in them they are right past the last number
pub right_none : (list : FaultList) → Right list 192 (replicate 432 None) (replicate 192 None)
unfolding numbers_from Right
right_none list = record {
  wide = refl;
  long = refl;
  firsts = λ s on. get_or-replicate 432 (place s) None None (place_within s on);
  nexts = λ n s h. absurd (omega (arith, h.0, sits_below list s n h.2));
}

-- one number less, as a loop that counts down has it
module _ (list : FaultList) (above : ℕ) (first next : List (Option ℕ)) (some : 0 < above) (few : above ≤ 192) (was : Right list above first next) where
  abbrev n : ℕ
  n = above - 1

  lt : n < 192
  lt = omega arith

  right : RightTables list (n + 1) first next
  right = let up : above ≡ (above - 1) + 1 = omega arith in subst (λ (i : ℕ). RightTables list i first next) up (tables list above first next was)

  -- the first of the numbers with this one, and without it
  first_at : (s : Site) (b : Bool) → sits_at s (fault_of list n) ≡ b → slice_get (numbers_from list s n) 0 ≡ cond b (Some n) (slice_get (numbers_from list s (n + 1)) 0)
  first_at s true e = ap (λ (xs : List ℕ). slice_get xs 0) (numbers_at list s n true lt e)
  first_at s false e = ap (λ (xs : List ℕ). slice_get xs 0) (numbers_at list s n false lt e)

  pub right_more : (p : ℕ) → place_of (fault_of list n) ≡ Some p → Right list n (set first p (Some n)) (set next n (get_or first p None))
  unfolding Right
  right_more p e =
      let tells = place_tells (fault_of list n) p e in
      let room : p < length first = omega (arith, placed_within (fault_of list n) p e, right.wide) in
      let far : n < length next = omega (arith, right.long) in
      record {
        wide = length-set first p (Some n) ∙ right.wide;
        long = length-set next n (get_or first p None) ∙ right.long;
        firsts = λ s on. ⊎_elim
            (λ (q : place s ≡ p).
            ap (λ (i : ℕ). get_or (set first p (Some n)) i None) q ∙ get_or-set_same first p (Some n) None room ∙ sym (first_at s true (tells s on ∙ eq-eqb p (place s) (sym q))))
            (λ (ne : place s ≡ p → ⊥).
            get_or-set_other first p (place s) (Some n) None ne ∙ right.firsts s on ∙ sym (first_at s false (tells s on ∙ ne_eqb p (place s) (λ q. ne (sym q)))))
            (cases_eq (place s) p);
        nexts = λ i s h. ⊎_elim
            (λ (q : i ≡ n).
            let sits : sits_at s (fault_of list n) ≡ true = subst (λ (j : ℕ). sits_at s (fault_of list j) ≡ true) q h.2 in
            let at : p ≡ place s = eqb-true p (place s) (sym (tells s h.1) ∙ sits) in
            subst (λ (j : ℕ). get_or (set next n (get_or first p None)) j None ≡ slice_get (numbers_from list s (j + 1)) 0) (sym q)
            (get_or-set_same next n (get_or first p None) None far ∙ ap (λ (j : ℕ). get_or first j None) at ∙ right.firsts s h.1))
            (λ (ne : i ≡ n → ⊥). get_or-set_other next n i (get_or first p None) None ne ∙ right.nexts i s (omega (arith, h.0), h.1, h.2))
            (cases_eq i n);
      }

  pub right_still : place_of (fault_of list n) ≡ None → Right list n first next
  unfolding Right
  right_still e =
      let tells = no_place_tells (fault_of list n) e in
      record {
        wide = right.wide;
        long = right.long;
        firsts = λ s on. right.firsts s on ∙ sym (first_at s false (tells s on));
        nexts = λ i s h. ⊎_elim
            (λ (q : i ≡ n). absurd (both_ways (sits_at s (fault_of list n)) (tells s h.1) (subst (λ (j : ℕ). sits_at s (fault_of list j) ≡ true) q h.2)))
            (λ (ne : i ≡ n → ⊥). right.nexts i s (omega (arith, h.0), h.1, h.2))
            (cases_eq i n);
      }
