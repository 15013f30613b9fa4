use Rattle.std.proofs.Common.{◌≡◌, ℕ, zero, suc, ◌+◌, ◌/◌, ◌%◌, ◌<◌, ◌≤◌, Bool, false, List, [], ◌∷◌, ◌++◌, length, get_or, take, refl, ◌∙◌, ap₂, add-zero, zero-add, rules, of_calls, arith}
use Rattle.std.proofs.Math.Seq.{take-suc}
use Rattle.std.specs.Fn.{Mut, Called}
use Rattle.std.specs.Array.{IsFromFnResultFrom}
use Rattle.circuit.specs.Gates.{bit}
use Rattle.format.specs.Reading.{unpacked}
use Rattle.reader.proofs.head.unpack.Goals as goal

-- the first values, where each is its bit
first : (bytes : List ℕ) (start : List Bool) → ((i : ℕ) → i < length start → get_or start i false ≡ bit (get_or bytes (i / 8) 0) (i % 8)) → (n : ℕ) → n ≤ length start → take n start ≡ unpacked bytes n
first bytes start each zero l = refl
first bytes start each (suc n) l =
    let here : n < length start = omega arith in
    rw (take-suc start n false here) (ap₂ (λ (xs : List Bool) (x : Bool). xs ++ x ∷ []) (first bytes start each n (omega arith)) (each n here))

-- calls that keep what they look at
kept : {F : Type 0} (g : Mut F (ℕ × Unit {0}) Bool) (f : F) (ys : List Bool) (i n : ℕ) → IsFromFnResultFrom g f ys i n → (value : ℕ → Bool) (Good : F → Type 0) → ((p q : F) (j : ℕ) (y : Bool) → Good p → Called g p (j, tt) y q → (y ≡ value j) × Good q)
    → Good f → (k : ℕ) → k < n → get_or ys (i + k) false ≡ value (i + k)
kept g f ys i zero h value Good step good k l = absurd (omega arith)
kept g f ys i (suc n) h value Good step good zero l = rw (add-zero i) (h.2.1 false ∙ (step f h.0 i h.1 good h.3).0)
kept g f ys i (suc n) h value Good step good (suc k) l =
    let e : i + suc k ≡ (i + 1) + k = omega arith in
    rw e (kept g h.0 ys (i + 1) n h.4 value Good step (step f h.0 i h.1 good h.3).1 k (omega arith))

pub returns : goal.returns
returns c =
    let long : length c.from_fn.result ≡ 48 = c.from_fn.ensures.items.long in
    λ lines l. first c.args.bytes.now c.from_fn.result
    (λ i lt.
    let below : i < 48 = omega arith in
    rw (zero-add i) at (kept _ _ c.from_fn.result 0 48 c.from_fn.ensures.items.each (λ j. bit (get_or c.args.bytes.now (j / 8) 0) (j % 8)) (λ p. p.0.now ≡ c.args.bytes.now) (λ p q j y good call. search (rules, of_calls)) refl i below))
    lines (omega arith)
