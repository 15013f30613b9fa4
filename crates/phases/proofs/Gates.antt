-- Gate after gate, those that read a change: their drafts are written, and then taken.
use Rattle.std.proofs.Common.{◌≡◌, ℕ, zero, suc, ◌+◌, ◌<◌, Bool, true, false, not, ◌&&◌, ◌≢◌, List, map, length, get_or, set, replicate, Decides, sym, refl, ap, ◌∙◌, subst, true≢false, arith}
use native.Mathlib.Decide.{dec_lt}
use Rattle.std.proofs.lemmas.List.{get_or_default, get_or-set_same, get_or-set_other}
use Rattle.std.proofs.lemmas.Bool.Decides.{Decides-at, Decides-like, Decides-and}
use Rattle.ternary.specs.declared.Value.{Value}
use Rattle.ternary.specs.Logics.{Tracks as Pair, tracks}
use Rattle.track.specs.declared.table.Line.{Line}
use Rattle.track.specs.declared.table.Tracks.{Tracks}
use Rattle.track.specs.Answers.{answers}
use Rattle.step.specs.Rows.{look, unknown, stored_at, draft_at}
use Rattle.step.proofs.Looks.{look_at, look_set_same, look_set_other}
use Rattle.phases.specs.declared.changes.Changes.{Changes}
use Rattle.phases.specs.Reads.{changed_at}
use Rattle.phases.specs.Passes.{Elsewhere}
use Rattle.phases.proofs.Rows.{held_by_draft}

-- what holds of the gates below k that are chosen, and of k, holds of those below k + 1
chosen_more : (read : ℕ → Bool) (Q : ℕ → Type 0) (k : ℕ) → ((i : ℕ) → i < k → read i ≡ true → Q i) → (read k ≡ true → Q k) → (i : ℕ) → i < k + 1 → read i ≡ true → Q i
chosen_more read Q k below here i lt r =
    elim (dec_lt i k) [ yes h ↦ below i h r | no h ↦ (let e : i ≡ k = omega arith in subst Q (sym e) (here (subst (λ (j : ℕ). read j ≡ true) e r))) ]

not_chosen : (b : Bool) → b ≡ false → b ≡ true → ⊥
not_chosen b e h = true≢false (sym h ∙ e)

twice : (b : Bool) → not b ≡ false → b ≡ true
twice true e = refl
twice false e = absurd (true≢false e)

none_changed : (n j : ℕ) → changed_at (replicate n false) j ≡ false
none_changed zero j = refl
none_changed (suc n) zero = refl
none_changed (suc n) (suc j) = none_changed n j

-- P inputs, the gates that are chosen, and the rows at the beginning
module _ {S : Type 0} (m : S → ℕ → Bool) (P : ℕ) (read : ℕ → Bool) (first : List (Line S)) where
  -- the drafts of the first k are written, with these values
  pub record Drafted (v : ℕ → ℕ → Value) (k : ℕ) (rows : List (Line S)) : Type 0 where
    pub held : map (λ x. x.held) rows ≡ map (λ x. x.held) first
    pub elsewhere : (j : ℕ) (d : Line S) → Elsewhere P read k j → get_or rows j d ≡ get_or first j d
    pub drafts : (n i : ℕ) → i < k → read i ≡ true → draft_at m rows n (P + i) ≡ tracks (v n i)

  pub drafts_begin : (v : ℕ → ℕ → Value) → Drafted v 0 first
  drafts_begin v = record { held = refl; elsewhere = λ j d off. refl; drafts = λ n i lt. absurd (omega arith) }

  module _ (v : ℕ → ℕ → Value) (k : ℕ) (rows : List (Line S)) (h : Drafted v k rows) where
    pub none_drafted : read k ≡ false → Drafted v (k + 1) rows
    none_drafted r = record {
      held = h.held;
      elsewhere = λ j d off. h.elsewhere j d (λ i lt. off i (omega arith));
      drafts = λ n. chosen_more read (λ i. draft_at m rows n (P + i) ≡ tracks (v n i)) k (h.drafts n) (λ t. absurd (not_chosen (read k) r t));
    }

    -- a row whose draft is written
    abbrev drafted_row : Line S → Tracks S → Line S
    drafted_row x t = record { held = x.held; draft = t }

    pub one_drafted : (any : Line S) (t : Tracks S) → read k ≡ true → P + k < length rows → ((n : ℕ) → answers m t n ≡ tracks (v n k)) → Drafted v (k + 1) (set rows (P + k) (drafted_row (get_or rows (P + k) any) t))
    one_drafted any t r here says = record {
      held = held_by_draft rows (P + k) any t ∙ h.held;
      elsewhere = λ j d off. get_or-set_other rows (P + k) j _ d (off k (omega arith) r) ∙ h.elsewhere j d (λ i lt. off i (omega arith));
      drafts = λ n. chosen_more read (λ i. draft_at m (set rows (P + k) (drafted_row (get_or rows (P + k) any) t)) n (P + i) ≡ tracks (v n i)) k
          (λ i lt ri. let ne : (P + i) ≢ (P + k) = λ q. omega arith in look_set_other _ _ rows _ _ _ ne ∙ h.drafts n i lt ri)
          (λ _. look_set_same _ _ rows _ _ here ∙ says n);
    }

  -- a row that took its draft
  abbrev pub taken_row : Line S → Line S
  taken_row x = record { held = x.draft; draft = x.draft }

  -- gate k's draft is what it held, in every circuit
  abbrev pub Same : ℕ → Type 0
  Same k = (n : ℕ) → stored_at m first n (P + k) ≡ draft_at m first n (P + k)

  -- the first k have taken theirs
  pub record Committed (k : ℕ) (rows : List (Line S)) (changed : List Bool) (idle : Bool) : Type 0 where
    pub elsewhere : (j : ℕ) → Elsewhere P read k j → (changed_at changed j ≡ false) × ((d : Line S) → get_or rows j d ≡ get_or first j d)
    pub taken : (i : ℕ) (d : Line S) → i < k → read i ≡ true → get_or rows (P + i) d ≡ taken_row (get_or first (P + i) d)
    pub unchanged : (i : ℕ) → i < k → read i ≡ true → changed_at changed (P + i) ≡ false → Same i
    pub is_idle : Decides idle ((i : ℕ) → i < k → read i ≡ true → Same i)

  pub commits_begin : (changes : Changes) → changes ≡ record { line = replicate 48 false; idle = true } → Committed 0 first changes.line changes.idle
  commits_begin changes e = record {
    elsewhere = λ j off. (ap (λ (x : Changes). changed_at x.line j) e ∙ none_changed 48 j, λ d. refl);
    taken = λ i d lt. absurd (omega arith);
    unchanged = λ i lt. absurd (omega arith);
    is_idle = ((λ _ i lt. absurd (omega arith)), (λ _. ap (λ (x : Changes). x.idle) e));
  }

  module _ (k : ℕ) (rows : List (Line S)) (changed : List Bool) (idle : Bool) (h : Committed k rows changed idle) where
    pub none_committed : read k ≡ false → Committed (k + 1) rows changed idle
    none_committed r = record {
      elsewhere = λ j off. h.elsewhere j (λ i lt. off i (omega arith));
      taken = λ i d. chosen_more read (λ i. get_or rows (P + i) d ≡ taken_row (get_or first (P + i) d)) k (λ i. h.taken i d) (λ t. absurd (not_chosen (read k) r t)) i;
      unchanged = chosen_more read (λ i. changed_at changed (P + i) ≡ false → Same i) k h.unchanged (λ t. absurd (not_chosen (read k) r t));
      is_idle = Decides-like idle (λ all. chosen_more read Same k all (λ t. absurd (not_chosen (read k) r t))) (λ all i lt. all i (omega arith)) h.is_idle;
    }

    module _ (new : List (Line S)) (any : Line S) (changed' : List Bool) (idle' same : Bool) (r : read k ≡ true) (here : P + k < length rows) (far : length rows ≡ length first)
        (is : new ≡ set rows (P + k) (taken_row (get_or rows (P + k) any))) (tells : Decides same ((n : ℕ) → answers m (get_or rows (P + k) any).held n ≡ answers m (get_or rows (P + k) any).draft n))
        (noted : changed_at changed' (P + k) ≡ not same) (others : (j : ℕ) → (j ≡ P + k → ⊥) → changed_at changed' j ≡ changed_at changed j) (both : idle' ≡ (idle && same)) where
      -- the row of this gate is still as it was
      fresh : (d : Line S) → get_or rows (P + k) any ≡ get_or first (P + k) d
      fresh d = get_or_default rows (P + k) any d here ∙ (h.elsewhere (P + k) (λ i lt _ q. omega arith)).1 d

      looks : (f : Line S → Pair) → look f unknown first (P + k) ≡ f (get_or rows (P + k) any)
      looks f = look_at f unknown first (P + k) any (omega arith) ∙ ap f (sym (fresh any))

      tells_first : Decides same (Same k)
      tells_first =
          let held = λ (n : ℕ). looks (λ x. answers m x.held n) in
          let draft = λ (n : ℕ). looks (λ x. answers m x.draft n) in
          Decides-like same (λ e n. held n ∙ e n ∙ sym (draft n)) (λ e n. sym (held n) ∙ e n ∙ draft n) tells

      pub one_committed : Committed (k + 1) new changed' idle'
      one_committed = record {
        elsewhere = λ j off.
            let ne : j ≡ P + k → ⊥ = off k (omega arith) r in
            let was = h.elsewhere j (λ i lt. off i (omega arith)) in
            (others j ne ∙ was.0, λ d. ap (λ (ls : List (Line S)). get_or ls j d) is ∙ get_or-set_other rows (P + k) j _ d ne ∙ was.1 d);
        taken = λ i d. chosen_more read (λ i. get_or new (P + i) d ≡ taken_row (get_or first (P + i) d)) k
            (λ i lt ri. let ne : (P + i) ≢ (P + k) = λ q. omega arith in ap (λ (ls : List (Line S)). get_or ls (P + i) d) is ∙ get_or-set_other rows (P + k) (P + i) _ d ne ∙ h.taken i d lt ri)
            (λ _. ap (λ (ls : List (Line S)). get_or ls (P + k) d) is ∙ get_or-set_same rows (P + k) _ d here ∙ ap taken_row (fresh d)) i;
        unchanged = chosen_more read (λ i. changed_at changed' (P + i) ≡ false → Same i) k
            (λ i lt ri c. h.unchanged i lt ri (sym (others (P + i) (λ q. omega arith)) ∙ c))
            (λ _ c. tells_first.0 (twice same (sym noted ∙ c)));
        is_idle = Decides-at idle' (idle && same) both
            (Decides-like (idle && same) (λ p. chosen_more read Same k p.0 (λ _. p.1)) (λ all. ((λ i lt. all i (omega arith)), all k (omega arith) r)) (Decides-and idle same h.is_idle tells_first));
      }
