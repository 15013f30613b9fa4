-- How a tally goes up.
use Rattle.std.proofs.Common.{◌≡◌, ℕ, zero, suc, ◌+◌, ◌<◌, Bool, false, ◌||◌, eqb, sym, refl, ap, ◌∙◌, ap₂, ⊎_elim, arith}
use Rattle.std.proofs.lemmas.Bool.{cases_eq, ne_eqb, eq-eqb, or_right}
use Rattle.std.proofs.Math.Bool.{or-false}
use Rattle.fault_set.specs.Members.{one, tally}
use Rattle.fault_set.proofs.Tally.{tally_same}

-- where nothing is in
pub tally_empty : (n : ℕ) → tally (λ k. false) n ≡ 0
unfolding tally
tally_empty zero = refl
tally_empty (suc n) = ap (λ (t : ℕ). t + 0) (tally_empty n)

-- one number more that was not there
pub tally_plus : (f : ℕ → Bool) (x n : ℕ) → x < n → f x ≡ false → tally (λ k. f k || eqb x k) n ≡ tally f n + 1
unfolding tally
tally_plus f x zero h new = absurd (omega arith)
tally_plus f x (suc n) h new =
    ⊎_elim
    (λ (e : x ≡ n).
    let below : tally (λ k. f k || eqb x k) n ≡ tally f n = tally_same (λ k. f k || eqb x k) f n (λ k l. ap (λ (b : Bool). f k || b) (ne_eqb x k (λ q. omega arith)) ∙ or-false (f k)) in
    let now : tally f n + one (f n || eqb x n) ≡ tally f n + 1 = ap (λ (b : Bool). tally f n + one b) (or_right (f n) (eqb x n) (eq-eqb x n e)) in
    let was : tally f n + one (f n) ≡ tally f n + 0 = ap (λ (b : Bool). tally f n + one b) (ap f (sym e) ∙ new) in
    ap (λ (t : ℕ). t + one (f n || eqb x n)) below ∙ omega arith)
    (λ (ne : x ≡ n → ⊥).
    ap₂ (λ (t : ℕ) (b : Bool). t + one b) (tally_plus f x n (omega arith) new) (ap (λ (b : Bool). f n || b) (ne_eqb x n ne) ∙ or-false (f n)) ∙ omega arith)
    (cases_eq x n)
