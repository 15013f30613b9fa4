-- Faults are read alike against a table of gates and against the gates that it needs.
use Rattle.std.proofs.Common.{◌≡◌, ℕ, ◌+◌, ◌-◌, ◌<◌, ◌≤◌, Bool, true, false, cond, List, [], map, take, Ok, Err, refl, ap, arith}
use Rattle.circuit.specs.declared.gate.Gate.{Gate}
use Rattle.circuit.specs.declared.site.Site.TheVariants.{Stem, Pin}
use Rattle.circuit.specs.declared.site.Fault.{Fault}
use Rattle.circuit.specs.Gates.{bit}
use Rattle.circuit.specs.Netlists.{gate_at, trimmed_gate}
use Rattle.circuit.proofs.Trimmed.{gate_at_trimmed}
use Rattle.field.specs.declared.byte.Field.TheVariants.{Count, Bits, Place}
use Rattle.field.specs.Fields.{Reading, byte_of, next}
use Rattle.field.proofs.Steps.{bounds_kept, many_same}
use Rattle.format.specs.Reading.{fault_of, faults_of}
use Rattle.format.proofs.Readers.{byte_fits}

-- what follows a value need only agree at that value
next_same : {A B : Type 0} (r : Reading A) (f g : A → List ℕ → Reading B) → ((a : A) (rest : List ℕ) → r ≡ Ok (a, rest) → f a rest ≡ g a rest) → next r f ≡ next r g
next_same {A} {B} r f g h =
    elim r as (λ (v : Reading A). r ≡ v → next v f ≡ next v g) [ Ok p ↦ (λ e. h p.0 p.1 e) | Err e ↦ (λ _. refl) ] refl

module _ (inputs n end : ℕ) (gs hs : List Gate) (alike : (k : ℕ) → k < n → (gate_at gs k).pins ≡ (gate_at hs k).pins) where
  -- the pin of a gate line
  pin_same : (line : ℕ) (s : List ℕ) (stuck : Bool) → inputs ≤ line → line < inputs + n
      → ◌≡◌ {A = Reading Fault} (next (byte_of (Place 0 (gate_at gs (line - inputs)).pins) end s) (λ pin s. Ok (record { site = Pin line pin; stuck = stuck }, s)))
      (next (byte_of (Place 0 (gate_at hs (line - inputs)).pins) end s) (λ pin s. Ok (record { site = Pin line pin; stuck = stuck }, s)))
  pin_same line s stuck l u = rw (alike (line - inputs) (omega arith))

  fault_same : (s : List ℕ) → fault_of inputs (inputs + n) gs end s ≡ fault_of inputs (inputs + n) hs end s
  fault_same s = next_same (byte_of (Bits 3) end s) _ _ (λ map t _. by_flag map (bit map 1) t)
    where
      by_flag : (map : ℕ) (flag : Bool) (t : List ℕ)
          → ◌≡◌ {A = Reading Fault} (next (byte_of (Place (cond flag inputs 0) (inputs + n)) end t) (λ line u.
          cond {A = Reading Fault} flag
          (next (byte_of (Place 0 (gate_at gs (line - inputs)).pins) end u) (λ pin v. Ok (record { site = Pin line pin; stuck = bit map 0 }, v)))
          (Ok (record { site = Stem line; stuck = bit map 0 }, u))))
          (next (byte_of (Place (cond flag inputs 0) (inputs + n)) end t) (λ line u.
          cond {A = Reading Fault} flag
          (next (byte_of (Place 0 (gate_at hs (line - inputs)).pins) end u) (λ pin v. Ok (record { site = Pin line pin; stuck = bit map 0 }, v)))
          (Ok (record { site = Stem line; stuck = bit map 0 }, u))))
      by_flag map false t = refl
      by_flag map true t =
          next_same (byte_of (Place inputs (inputs + n)) end t) _ _
          (λ line u e.
          let b = bounds_kept (Place inputs (inputs + n)) line ((byte_fits (Place inputs (inputs + n)) end).sound t line u e).1.0 in
          pin_same line u (bit map 0) b.0 b.1)

  same : (s : List ℕ) → faults_of inputs (inputs + n) gs end s ≡ faults_of inputs (inputs + n) hs end s
  same s =
      next_same (byte_of (Count 1 192) end s) _ _
      (λ count t _. many_same (λ before. fault_of inputs (inputs + n) gs end) (λ before. fault_of inputs (inputs + n) hs end) count (λ before u l. fault_same u) count [] t (omega arith))

pub faults_same : (inputs n end : ℕ) (table : List Gate) (s : List ℕ) → faults_of inputs (inputs + n) (map trimmed_gate (take n table)) end s ≡ faults_of inputs (inputs + n) table end s
faults_same inputs n end table = same inputs n end (map trimmed_gate (take n table)) table (λ k l. ap (λ (g : Gate). g.pins) (gate_at_trimmed table n k l))
