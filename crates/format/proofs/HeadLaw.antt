-- What stands before the gates: map, counts, outputs and start values.
use Rattle.std.proofs.Common.{◌≡◌, ℕ, zero, suc, ◌+◌, ◌-◌, ◌<◌, ◌≤◌, true, List, [], ◌∷◌, ◌++◌, length, get_or, take, refl, add-one, arith}
use Rattle.circuit.specs.Gates.{bit}
use Rattle.field.specs.declared.byte.Field.TheVariants.{Count, Bits, Place}
use Rattle.field.specs.declared.row.Row.TheVariants.{Outputs}
use Rattle.field.specs.Fields.{admits}
use Rattle.field.specs.Rows.{above}
use Rattle.field.proofs.Steps.{bounds_kept, above_last}
use Rattle.format.specs.Written.{StartGiven}
use Rattle.format.specs.Reading.{Head, head_of}
use Rattle.format.proofs.Bytes.{count_taken, place_taken}
use Rattle.format.proofs.Readers.{Fits, ByteStands, byte_fits, Both, next_fits, fits_like, Last, last_fits, Admitted, RowStands, row_fits}
use Rattle.format.proofs.StartLaw.{start_fits}

module _ (inputs lines : ℕ) (output : List ℕ) where
  -- after the first, the next output is above the one before it
  above_next : (i : ℕ) → i < length output → above inputs (take (suc i) output) ≡ get_or output i 0 + 1
  above_next i l =
      let back : suc i - 1 ≡ i = omega arith in
      let e = above_last inputs (suc i) output (omega arith) (omega arith) in
      rw back at e

  -- what the fields take rises
  output_rises : Admitted (Outputs inputs lines) output → (i : ℕ) → i + 1 < length output → get_or output i 0 < get_or output (i + 1) 0
  output_rises h i l =
      let z = h (suc i) (omega arith) in
      rw (add-one i) (omega (arith, above_next i (omega arith), (bounds_kept (Place (above inputs (take (suc i) output)) lines) _ z).0))

  -- so it is above the inputs
  output_low : Admitted (Outputs inputs lines) output → (i : ℕ) → i < length output → inputs ≤ get_or output i 0
  output_low h zero l = (bounds_kept (Place inputs lines) _ (h 0 l)).0
  output_low h (suc i) l =
      let z = output_rises h i (omega arith) in
      omega (arith, rw (add-one i) at z, output_low h i (omega arith))

  -- and it names lines
  output_high : Admitted (Outputs inputs lines) output → (i : ℕ) → i < length output → get_or output i 0 < lines
  output_high h i l = (bounds_kept (Place (above inputs (take i output)) lines) _ (h i l)).1

  -- and such outputs are what the fields take
  outputs_admitted : ((i : ℕ) → i < length output → (inputs ≤ get_or output i 0) × (get_or output i 0 < lines)) → ((i : ℕ) → i + 1 < length output → get_or output i 0 < get_or output (i + 1) 0) → Admitted (Outputs inputs lines) output
  outputs_admitted h r zero l = place_taken inputs lines _ (h 0 l).0 (h 0 l).1
  outputs_admitted h r (suc i) l =
      let z = r i (omega arith) in
      place_taken (above inputs (take (suc i) output)) lines _ (omega (arith, rw (add-one i) at z, above_next i (omega arith))) (h (suc i) l).1

-- a head over its bytes
pub record HeadStands (h : Head) (bytes : List ℕ) : Type 0 where
  pub map : admits (Bits 3) h.map ≡ true
  pub inputs_some : 0 < h.inputs
  pub inputs_few : h.inputs ≤ 8
  pub gates_some : 0 < h.gates
  pub gates_few : h.gates ≤ 40
  pub outputs_some : 0 < length h.output
  pub outputs_few : length h.output ≤ 8
  pub gate_lines : (i : ℕ) → i < length h.output → (h.inputs ≤ get_or h.output i 0) × (get_or h.output i 0 < h.inputs + h.gates)
  pub rising : (i : ℕ) → i + 1 < length h.output → get_or h.output i 0 < get_or h.output (i + 1) 0
  pub start_length : length h.start ≡ h.inputs + h.gates
  pub start_bytes : List ℕ
  pub start : StartGiven (bit h.map 0) (h.inputs + h.gates) h.start start_bytes
  pub is : bytes ≡ h.map ∷ h.inputs ∷ h.gates ∷ length h.output ∷ (h.output ++ start_bytes)

-- the bytes of a head, part by part
HeadParts : Head → List ℕ → Type 0
HeadParts =
    Both (ByteStands (Bits 3)) (λ map.
    Both (ByteStands (Count 1 8)) (λ inputs.
    Both (ByteStands (Count 1 40)) (λ gates.
    Both (ByteStands (Count 1 8)) (λ outputs.
    Both (RowStands (Outputs inputs (inputs + gates)) outputs) (λ output.
    Last (λ start. record { map = map; inputs = inputs; gates = gates; output = output; start = start }) (λ start bytes. (length start ≡ inputs + gates) × StartGiven (bit map 0) (inputs + gates) start bytes))))))

-- the parts make the head
head_to : (h : Head) (bytes : List ℕ) → HeadParts h bytes → HeadStands h bytes
unfolding HeadParts
head_to h bytes p1 =
    let p2 = p1.second in let p3 = p2.second in let p4 = p3.second in let p5 = p4.second in let p6 = p5.second in
    let inputs = bounds_kept (Count 1 8) p2.value p2.first.0 in
    let gates = bounds_kept (Count 1 40) p3.value p3.first.0 in
    let outputs = bounds_kept (Count 1 8) p4.value p4.first.0 in
    let count = p5.first.count in
    let lines = p2.value + p3.value in
    rw (p6.1, p1.is, p1.first.1, p2.is, p2.first.1, p3.is, p3.first.1, p4.is, p4.first.1, p5.is, p5.first.is) (record {
      map = p1.first.0;
      inputs_some = inputs.0;
      inputs_few = inputs.1;
      gates_some = gates.0;
      gates_few = gates.1;
      outputs_some = omega (arith, outputs.0, count);
      outputs_few = omega (arith, outputs.1, count);
      gate_lines = λ i l. (output_low p2.value lines p5.value p5.first.admitted i l, output_high p2.value lines p5.value p5.first.admitted i l);
      rising = output_rises p2.value lines p5.value p5.first.admitted;
      start_length = p6.2.0;
      start_bytes = p5.right;
      start = p6.2.1;
      is = rw count;
    })

-- and the head has the parts
head_from : (h : Head) (bytes : List ℕ) → HeadStands h bytes → HeadParts h bytes
unfolding HeadParts
head_from h bytes s = record {
  value = h.map;
  left = h.map ∷ [];
  right = h.inputs ∷ h.gates ∷ length h.output ∷ (h.output ++ s.start_bytes);
  first = (s.map, refl);
  second = record {
    value = h.inputs;
    left = h.inputs ∷ [];
    right = h.gates ∷ length h.output ∷ (h.output ++ s.start_bytes);
    first = (count_taken 1 8 _ s.inputs_some s.inputs_few, refl);
    second = record {
      value = h.gates;
      left = h.gates ∷ [];
      right = length h.output ∷ (h.output ++ s.start_bytes);
      first = (count_taken 1 40 _ s.gates_some s.gates_few, refl);
      second = record {
        value = length h.output;
        left = length h.output ∷ [];
        right = h.output ++ s.start_bytes;
        first = (count_taken 1 8 _ s.outputs_some s.outputs_few, refl);
        second = record {
          value = h.output;
          left = h.output;
          right = s.start_bytes;
          first = record { count = refl; admitted = outputs_admitted h.inputs (h.inputs + h.gates) h.output s.gate_lines s.rising; is = refl };
          second = (h.start, refl, (s.start_length, s.start));
          is = refl;
        };
        is = refl;
      };
      is = refl;
    };
    is = refl;
  };
  is = s.is;
}

-- reading a head fits what stands for it
pub head_fits : (end : ℕ) → Fits (head_of end) HeadStands
unfolding HeadParts
head_fits end =
    fits_like (next_fits (byte_fits (Bits 3) end)
    (λ map. next_fits (byte_fits (Count 1 8) end)
    (λ inputs. next_fits (byte_fits (Count 1 40) end)
    (λ gates. next_fits (byte_fits (Count 1 8) end)
    (λ outputs. next_fits (row_fits (Outputs inputs (inputs + gates)) outputs end)
    (λ output. last_fits (start_fits (bit map 0) (inputs + gates) end)))))))
    head_to head_from
