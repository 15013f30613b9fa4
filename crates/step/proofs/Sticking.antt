-- Going through the numbers of the faults at a site.
use Rattle.std.proofs.Common.{◌≡◌, ℕ, zero, suc, ◌+◌, ◌<◌, ◌≤◌, Bool, true, false, cond, ◌&&◌, eqb, ltb, List, [], ◌∷◌, ◌++◌, fold, Some, None, Option, sym, refl, ap, ◌∙◌, subst, ⊎_elim, arith}
use Rattle.std.proofs.lemmas.Bool.{cases_Bool, cases_eq, cases_lt, false≢true, eq-eqb, ne_eqb, lt-ltb, le-ltb}
use Rattle.std.specs.Iterator.{Yields, YieldsFirst}
use Rattle.circuit.specs.declared.site.Site.{Site}
use Rattle.circuit.specs.declared.site.Fault.{Fault}
use Rattle.circuit.specs.declared.site.FaultList.{FaultList}
use Rattle.circuit.specs.Netlists.{fault_at}
use Rattle.circuit.specs.Chips.{stuck_at, seen}
use Rattle.site_index.specs.Sites.{fault_of, sits_at, numbers_from}
use Rattle.site_index.proofs.Leading.{fault_past, numbers_at, numbers_past}

stuck_nowhere : (s : Site) (f : Option Fault) → sits_at s f ≡ false → stuck_at f s ≡ None
stuck_nowhere s None e = refl
stuck_nowhere s (Some f) e = ap (λ (b : Bool). cond b (Some f.stuck) None) e

stuck_by : (s : Site) (b : Bool) (f : Fault) → sits_at s (cond b (Some f) None) ≡ true → stuck_at (cond b (Some f) None) s ≡ Some f.stuck
stuck_by s true f e = ap (λ (b : Bool). cond b (Some f.stuck) None) e
stuck_by s false f e = absurd (false≢true e)

stuck_here : (list : FaultList) (s : Site) (n : ℕ) → sits_at s (fault_of list n) ≡ true → stuck_at (fault_of list n) s ≡ Some (fault_at list.fault n).stuck
unfolding fault_of
stuck_here list s n e = stuck_by s (ltb n 192 && ltb n list.count) (fault_at list.fault n) e

-- what an iterator gave so far and what it has left is what it had left
pub so_far : {S : Type 0} (rest : S → List ℕ) (xs : List ℕ) (s t : S) → Yields (YieldsFirst rest) s xs t → rest s ≡ xs ++ rest t
so_far rest [] s t e = ap rest e
so_far rest (x ∷ xs) s t p = p.1 ∙ ap (λ (ys : List ℕ). x ∷ ys) (so_far rest xs p.0 t p.2)

-- what stands in circuit f after the fault of number n was held
abbrev pub held_by : {A : Type 0} → (Bool → A) → FaultList → ℕ → A → ℕ → A
held_by const list f was n = cond (eqb n f) (const (fault_at list.fault n).stuck) was

module _ {A : Type 0} (const : Bool → A) (list : FaultList) (s : Site) (f : ℕ) where
  abbrev seen_in : A → A
  seen_in was = seen const (stuck_at (fault_of list f) s) was

  untouched : (was : A) → sits_at s (fault_of list f) ≡ false → was ≡ seen_in was
  untouched was e = sym (ap (λ (b : Option Bool). seen const b was) (stuck_nowhere s (fault_of list f) e))

  touched : (was : A) → sits_at s (fault_of list f) ≡ true → const (fault_at list.fault f).stuck ≡ seen_in was
  touched was e = sym (ap (λ (b : Option Bool). seen const b was) (stuck_here list s f e))

  -- from one number on: a circuit below it stays as it was
  abbrev from_on : ℕ → A → A
  from_on from was = cond (ltb f from) was (seen_in was)

  past : (from : ℕ) (was : A) → f < from → from_on from was ≡ was
  past from was lt = ap (λ (b : Bool). cond b was (seen_in was)) (lt-ltb f from lt)

  ahead : (from : ℕ) (was : A) → from ≤ f → from_on from was ≡ seen_in was
  ahead from was le = ap (λ (b : Bool). cond b was (seen_in was)) (le-ltb f from le)

  other : (n : ℕ) (was : A) → (n ≡ f → ⊥) → held_by const list f was n ≡ was
  other n was ne = ap (λ (b : Bool). cond b (const (fault_at list.fault n).stuck) was) (ne_eqb n f ne)

  same : (n : ℕ) (was : A) → n ≡ f → held_by const list f was n ≡ const (fault_at list.fault f).stuck
  same n was e = ap (λ (b : Bool). cond b (const (fault_at list.fault n).stuck) was) (eq-eqb n f e) ∙ ap (λ (i : ℕ). const (fault_at list.fault i).stuck) e

  -- one number more, whose fault sits at the site
  with_one : (n : ℕ) (was : A) → sits_at s (fault_of list n) ≡ true → from_on (n + 1) (held_by const list f was n) ≡ from_on n was
  with_one n was e = ⊎_elim
      (λ (q : n ≡ f). past (n + 1) (held_by const list f was n) (omega arith) ∙ same n was q
      ∙ touched was (subst (λ (i : ℕ). sits_at s (fault_of list i) ≡ true) q e) ∙ sym (ahead n was (omega arith)))
      (λ (ne : n ≡ f → ⊥). ap (from_on (n + 1)) (other n was ne) ∙ ⊎_elim
      (λ (lt : f < n). past (n + 1) was (omega arith) ∙ sym (past n was lt))
      (λ (le : n ≤ f). ahead (n + 1) was (omega arith) ∙ sym (ahead n was le))
      (cases_lt f n))
      (cases_eq n f)

  -- one number more, whose fault does not
  without_one : (n : ℕ) (was : A) → sits_at s (fault_of list n) ≡ false → from_on (n + 1) was ≡ from_on n was
  without_one n was e = ⊎_elim
      (λ (q : n ≡ f). past (n + 1) was (omega arith) ∙ untouched was (subst (λ (i : ℕ). sits_at s (fault_of list i) ≡ false) q e) ∙ sym (ahead n was (omega arith)))
      (λ (ne : n ≡ f → ⊥). ⊎_elim
      (λ (lt : f < n). past (n + 1) was (omega arith) ∙ sym (past n was lt))
      (λ (le : n ≤ f). ahead (n + 1) was (omega arith) ∙ sym (ahead n was le))
      (cases_lt f n))
      (cases_eq n f)

  held_from : (left from : ℕ) (was : A) → from + left ≡ 192 → fold (held_by const list f) was (numbers_from list s from) ≡ from_on from was
  held_from zero from was e =
      ap (fold (held_by const list f) was) (numbers_past list s from (omega arith)) ∙ ⊎_elim
      (λ (lt : f < from). sym (past from was lt))
      (λ (le : from ≤ f). untouched was (ap (sits_at s) (fault_past list f (omega arith))) ∙ sym (ahead from was le))
      (cases_lt f from)
  held_from (suc left) from was e = ⊎_elim
      (λ (h : sits_at s (fault_of list from) ≡ true).
      ap (fold (held_by const list f) was) (numbers_at list s from true (omega arith) h)
      ∙ held_from left (from + 1) (held_by const list f was from) (omega arith) ∙ with_one from was h)
      (λ (h : sits_at s (fault_of list from) ≡ false).
      ap (fold (held_by const list f) was) (numbers_at list s from false (omega arith) h) ∙ held_from left (from + 1) was (omega arith) ∙ without_one from was h)
      (cases_Bool (sits_at s (fault_of list from)))

  -- once all faults at the site were held, the circuit has what is seen there
  pub held_all : (was : A) → fold (held_by const list f) was (numbers_from list s 0) ≡ seen const (stuck_at (fault_of list f) s) was
  held_all was = held_from 192 0 was refl ∙ ahead 0 was (omega arith)
