-- A gate's record: what reading it gives is a lawful gate and the bytes that stand for it, and every such piece of bytes is read.
use Rattle.std.proofs.Common.{◌≡◌, ℕ, ◌<◌, ◌≤◌, Bool, true, false, cond, List, [], ◌∷◌, ◌++◌, length, get_or, replicate, sym, refl, ◌∙◌, arith}
use native.Mathlib.Nat.{min-eq_left}
use lib.Bits.{bit_and}
use Rattle.std.specs.List.{AllByRecursion as All}
use Rattle.std.proofs.lemmas.List.{length-replicate, get_or-replicate, length-take-le, ext_get_or}
use Rattle.std.proofs.lemmas.Nat.{pow_pos, pow_below}
use Rattle.std.proofs.ByRecursion.{All-get_or, All-from_get_or}
use Rattle.std.proofs.lemmas.Bool.{true≢false, false≢true, eqb-true, eq-eqb}
use Rattle.circuit.specs.declared.gate.Function.{Function}
use Rattle.circuit.specs.declared.gate.Function.TheVariants.{Complex, CElement}
use Rattle.circuit.specs.declared.gate.Gate.{Gate}
use Rattle.circuit.specs.Gates.{bit, all_pins}
use Rattle.circuit.specs.Netlists.{no_gate, gate_at, least_pins, products, used_at, inverted_at, LawfulGate}
use Rattle.field.specs.declared.byte.Field.TheVariants.{Count, Bits, Place}
use Rattle.field.specs.declared.row.Row.TheVariants.{Pins, Used, Inverted}
use Rattle.field.specs.Fields.{admits, byte_of}
use Rattle.field.specs.Rows.{row_of, low_bits}
use Rattle.field.proofs.Steps.{bounds_kept}
use Rattle.format.specs.Descriptions.{ExactFunction, ExactGate}
use Rattle.format.specs.Written.{map_of, given, is_complex, bytes_of_product, GateWritten, GatesWritten, none as no_gates, more as more_gates}
use Rattle.format.specs.Reading.{optional, complex_of, c_element_of, opening_of, gate_of, gates_of}
use Rattle.format.proofs.Bytes.{count_taken, place_taken, map_low, map_high, map_admitted, map_flags}
use Rattle.format.proofs.Readers.{Fits, ByteStands, byte_fits, Both, next_fits, fits_like, Last, last_fits, Perhaps, optional_fits, Chain, none, more, many_fits, RowStands, row_fits}

-- the masks of the products, over the bytes that stand for them
record MasksStand (masks : Bool) (n : ℕ) (used inverted bytes : List ℕ) : Type 0 where
  count : length inverted ≡ n
  within : (p : ℕ) → p < n → bit_and (get_or inverted p 0) (get_or used p 0) ≡ get_or inverted p 0
  plain : masks ≡ false → (p : ℕ) → p < n → get_or inverted p 0 ≡ 0
  is : bytes ≡ given masks inverted

-- what is read as masks is such masks: left out, all are 0
masks_to : (masks : Bool) (n : ℕ) (used inverted bytes : List ℕ) → Perhaps masks (replicate n 0) (RowStands (Inverted used) n) inverted bytes → MasksStand masks n used inverted bytes
masks_to true n used inverted bytes h = record {
  count = h.count;
  within = λ p l. let k : p < length inverted = omega (arith, h.count) in let le : p ≤ length inverted = omega arith in
      let z = h.admitted p k in eqb-true _ _ (rw (length-take-le p inverted le) at z);
  plain = λ e. absurd (true≢false e);
  is = h.is;
}
masks_to false n used inverted bytes h = record {
  count = rw h.0 (length-replicate n 0);
  within = λ p l. rw (h.0, get_or-replicate {A = ℕ} n p 0 0 l);
  plain = λ _ p l. rw h.0 (get_or-replicate {A = ℕ} n p 0 0 l);
  is = h.1;
}

-- and such masks are read
masks_from : (masks : Bool) (n : ℕ) (used inverted bytes : List ℕ) → MasksStand masks n used inverted bytes → Perhaps masks (replicate n 0) (RowStands (Inverted used) n) inverted bytes
masks_from true n used inverted bytes h = record {
  count = h.count;
  admitted = λ i l. let le : i ≤ length inverted = omega arith in rw (length-take-le i inverted le) (eq-eqb _ _ (h.within i (omega (arith, h.count))));
  is = h.is;
}
masks_from false n used inverted bytes h = (
  ext_get_or 0 inverted (replicate n 0) (h.count ∙ sym (length-replicate n 0))
      (λ i l. let k : i < n = omega (arith, h.count) in h.plain refl i k ∙ sym (get_or-replicate n i 0 0 k)),
  h.is,
)

-- reading the masks fits
masks_fits : (masks : Bool) (n end : ℕ) (used : List ℕ) → Fits (optional masks (replicate n 0) (row_of (Inverted used) n end)) (MasksStand masks n used)
masks_fits masks n end used =
    fits_like (optional_fits masks (replicate n 0) (row_fits (Inverted used) n end)) (masks_to masks n used) (masks_from masks n used)

-- the mask of a C-element
record MaskStands (masks : Bool) (mask inverted : ℕ) (bytes : List ℕ) : Type 0 where
  within : bit_and inverted mask ≡ inverted
  plain : masks ≡ false → inverted ≡ 0
  is : bytes ≡ given masks (inverted ∷ [])

-- what is read as its mask is such a mask
mask_to : (masks : Bool) (mask inverted : ℕ) (bytes : List ℕ) → Perhaps masks 0 (ByteStands (Bits mask)) inverted bytes → MaskStands masks mask inverted bytes
mask_to true mask inverted bytes h = record {
  within = eqb-true _ _ h.0;
  plain = λ e. absurd (true≢false e);
  is = h.1;
}
mask_to false mask inverted bytes h = record {
  within = rw h.0;
  plain = λ _. h.0;
  is = h.1;
}

-- and such a mask is read
mask_from : (masks : Bool) (mask inverted : ℕ) (bytes : List ℕ) → MaskStands masks mask inverted bytes → Perhaps masks 0 (ByteStands (Bits mask)) inverted bytes
mask_from true mask inverted bytes h = (eq-eqb _ _ h.within, h.is)
mask_from false mask inverted bytes h = (h.plain refl, h.is)

-- reading its mask fits
mask_fits : (masks : Bool) (mask end : ℕ) → Fits (optional masks 0 (byte_of (Bits mask) end)) (MaskStands masks mask)
mask_fits masks mask end =
    fits_like (optional_fits masks 0 (byte_fits (Bits mask) end)) (mask_to masks mask) (mask_from masks mask)

-- what a product uses, where `mask` has all pins
abbrev used_in : ℕ → Function → ℕ → ℕ
used_in mask (Complex s) p = get_or s.used p 0
used_in mask (CElement inverted) p = mask

-- a gate's function over its bytes, where `mask` has all pins
record FunctionStands (complex masks : Bool) (mask : ℕ) (f : Function) (bytes : List ℕ) : Type 0 where
  kind : is_complex f ≡ complex
  exact : ExactFunction f
  some : 0 < products f
  few : products f ≤ 8
  used_some : complex ≡ true → (p : ℕ) → p < products f → 0 < used_in mask f p
  used_within : (p : ℕ) → p < products f → used_in mask f p ≤ mask
  inverted_used : (p : ℕ) → p < products f → bit_and (inverted_at f p) (used_in mask f p) ≡ inverted_at f p
  plain : masks ≡ false → (p : ℕ) → p < products f → inverted_at f p ≡ 0
  is : bytes ≡ bytes_of_product masks f

-- the bytes of a complex gate, part by part
ComplexParts : Bool → ℕ → Function → List ℕ → Type 0
ComplexParts masks pins =
    Both (ByteStands (Count 1 8)) (λ n. Both (RowStands (Used pins) n) (λ used. Last (λ inverted. Complex (record { products = n; used = used; inverted = inverted })) (MasksStand masks n used)))

-- the parts make the gate
complex_to : (masks : Bool) (pins : ℕ) (f : Function) (bytes : List ℕ) → ComplexParts masks pins f bytes → FunctionStands true masks (low_bits pins) f bytes
unfolding ComplexParts
complex_to masks pins f bytes h =
    let k = h.second in let m = k.second in
    let bounds = bounds_kept (Count 1 8) h.value h.first.0 in
    let used : (p : ℕ) → p < h.value → (0 < get_or k.value p 0) × (get_or k.value p 0 ≤ low_bits pins) = λ p l. bounds_kept (Count 1 (low_bits pins)) _ (k.first.admitted p (omega (arith, k.first.count))) in
    rw (m.1, h.is, k.is, h.first.1, k.first.is, m.2.is) (record {
      kind = refl;
      exact = (k.first.count, m.2.count);
      some = bounds.0;
      few = bounds.1;
      used_some = λ _ p l. (used p l).0;
      used_within = λ p l. (used p l).1;
      inverted_used = m.2.within;
      plain = m.2.plain;
      is = refl;
    })

-- and the gate has the parts
complex_from : (masks : Bool) (pins : ℕ) (f : Function) (bytes : List ℕ) → FunctionStands true masks (low_bits pins) f bytes → ComplexParts masks pins f bytes
unfolding ComplexParts
complex_from masks pins (CElement inverted) bytes h = absurd (false≢true h.kind)
complex_from masks pins (Complex s) bytes h = record {
  value = s.products;
  left = s.products ∷ [];
  right = s.used ++ given masks s.inverted;
  first = (count_taken 1 8 _ h.some h.few, refl);
  second = record {
    value = s.used;
    left = s.used;
    right = given masks s.inverted;
    first = record {
      count = h.exact.0;
      admitted = λ i l. let k : i < s.products = omega (arith, h.exact.0) in count_taken 1 (low_bits pins) _ (h.used_some refl i k) (h.used_within i k);
      is = refl;
    };
    second = (s.inverted, refl, record { count = h.exact.1; within = h.inverted_used; plain = h.plain; is = refl });
    is = refl;
  };
  is = h.is;
}

-- reading a complex gate fits
complex_fits : (masks : Bool) (pins end : ℕ) → Fits (complex_of masks pins end) (FunctionStands true masks (low_bits pins))
unfolding ComplexParts
complex_fits masks pins end =
    fits_like (next_fits (byte_fits (Count 1 8) end)
    (λ n. next_fits (row_fits (Used pins) n end)
    (λ used. last_fits (masks_fits masks n end used))))
    (complex_to masks pins) (complex_from masks pins)

-- a mask makes a C-element
c_element_to : (masks : Bool) (pins : ℕ) (f : Function) (bytes : List ℕ) → Last CElement (MaskStands masks (low_bits pins)) f bytes → FunctionStands false masks (low_bits pins) f bytes
c_element_to masks pins f bytes h = rw h.1 (record {
  kind = refl;
  exact = tt;
  some = omega arith;
  few = omega arith;
  used_some = λ e. absurd (false≢true e);
  used_within = λ p l. omega arith;
  inverted_used = λ p l. h.2.within;
  plain = λ e p l. h.2.plain e;
  is = h.2.is;
})

-- and a C-element has a mask
c_element_from : (masks : Bool) (pins : ℕ) (f : Function) (bytes : List ℕ) → FunctionStands false masks (low_bits pins) f bytes → Last CElement (MaskStands masks (low_bits pins)) f bytes
c_element_from masks pins (Complex s) bytes h = absurd (true≢false h.kind)
c_element_from masks pins (CElement inverted) bytes h = (inverted, refl, record { within = h.inverted_used 0 (omega arith); plain = λ e. h.plain e 0 (omega arith); is = h.is })

-- reading a C-element fits
c_element_fits : (masks : Bool) (pins end : ℕ) → Fits (c_element_of masks pins end) (FunctionStands false masks (low_bits pins))
c_element_fits masks pins end =
    fits_like (last_fits (mask_fits masks (low_bits pins) end)) (c_element_to masks pins) (c_element_from masks pins)

-- either function, as the map says
function_fits : (complex masks : Bool) (pins end : ℕ) → Fits (λ s. cond complex (complex_of masks pins end s) (c_element_of masks pins end s)) (FunctionStands complex masks (low_bits pins))
function_fits true masks pins end = complex_fits masks pins end
function_fits false masks pins end = c_element_fits masks pins end

-- a gate's map and pin count
record OpeningStands (opening : ℕ × ℕ) (bytes : List ℕ) : Type 0 where
  map : admits (Bits 3) opening.0 ≡ true
  enough : cond (bit opening.0 0) 1 2 ≤ opening.1
  few : opening.1 ≤ 8
  is : bytes ≡ opening.0 ∷ opening.1 ∷ []

-- reading the map and the pin count fits
opening_fits : (end : ℕ) → Fits (opening_of end) OpeningStands
opening_fits end =
    fits_like (next_fits (byte_fits (Bits 3) end) (λ map. last_fits (byte_fits (Count (cond (bit map 0) 1 2) 8) end)))
    (λ opening bytes h.
    let k = h.second in
    let bounds = bounds_kept (Count (cond (bit h.value 0) 1 2) 8) k.0 k.2.0 in
    rw (k.1, h.is, h.first.1, k.2.1) (record { map = h.first.0; enough = bounds.0; few = bounds.1; is = refl }))
    (λ opening bytes h. record {
      value = opening.0;
      left = opening.0 ∷ [];
      right = opening.1 ∷ [];
      first = (h.map, refl);
      second = (opening.1, refl, (count_taken (cond (bit opening.0 0) 1 2) 8 _ h.enough h.few, refl));
      is = h.is;
    })

-- the mask of the lowest bits is that of all pins
low_bits_lem : (pins : ℕ) → pins ≤ 8 → low_bits pins ≡ all_pins pins
low_bits_lem pins h = rw (min-eq_left h)

-- the least pin count, as the map says it
least_pins_lem : (f : Function) → least_pins f ≡ cond (is_complex f) 1 2
least_pins_lem (Complex s) = refl
least_pins_lem (CElement inverted) = refl

-- what a product uses, by the mask of all pins
used_in_lem : (pins : ℕ) (f : Function) (p : ℕ) → used_at pins f p ≡ used_in (all_pins pins) f p
used_in_lem pins (Complex s) p = refl
used_in_lem pins (CElement inverted) p = refl

-- a product uses some pin
used_some_at : (complex masks : Bool) (pins : ℕ) (f : Function) (bytes : List ℕ) → least_pins f ≤ pins → FunctionStands complex masks (all_pins pins) f bytes → (p : ℕ) → p < products f → 0 < used_at pins f p
used_some_at complex masks pins (Complex s) bytes e h p l = h.used_some (sym h.kind) p l
used_some_at complex masks pins (CElement inverted) bytes e h p l = omega (arith, pow_below 0 pins (omega arith))

-- a lawful gate over its bytes
abbrev pub GateStands : ℕ → Gate → List ℕ → Type 0
GateStands lines g bytes = LawfulGate lines g × ExactGate g × GateWritten g bytes

-- the bytes of a gate, part by part
GateParts : ℕ → Gate → List ℕ → Type 0
GateParts lines =
    Both OpeningStands (λ opening. Both (RowStands (Pins lines) opening.1) (λ pin.
    Last (λ f. record { pins = opening.1; pin = pin; function = f }) (FunctionStands (bit opening.0 0) (bit opening.0 1) (low_bits opening.1))))

-- the parts make a lawful gate
gate_to : (lines : ℕ) (g : Gate) (bytes : List ℕ) → GateParts lines g bytes → GateStands lines g bytes
unfolding GateParts
gate_to lines g bytes h =
    let k = h.second in
    let map = h.value.0 in
    let pins = h.value.1 in
    let f = k.second.0 in
    let w : FunctionStands (bit map 0) (bit map 1) (all_pins pins) f k.right = rw (← low_bits_lem pins h.first.few) k.second.2 in
    let enough : least_pins f ≤ pins = rw (least_pins_lem f, w.kind) h.first.enough in
    rw (k.second.1, h.is, k.is, h.first.is, k.first.is) (
      record {
        pins_enough = enough;
        pins_few = h.first.few;
        named = λ j l. (bounds_kept (Place 0 lines) _ (k.first.admitted j (omega (arith, k.first.count)))).1;
        products_some = w.some;
        products_few = w.few;
        used_some = used_some_at (bit map 0) (bit map 1) pins f k.right enough w;
        used_within = λ p l. rw (used_in_lem pins f p) (omega (arith, w.used_within p l, pow_pos pins));
        inverted_used = λ p l. rw (used_in_lem pins f p) (w.inverted_used p l);
      },
      record { pins = k.first.count; function = w.exact },
      record { masks = bit map 1; plain = w.plain; is = rw (w.is, w.kind, ← map_flags map h.first.map) },
    )

-- and a lawful gate has the parts
gate_from : (lines : ℕ) (g : Gate) (bytes : List ℕ) → GateStands lines g bytes → GateParts lines g bytes
unfolding GateParts
gate_from lines g bytes h =
    let lawful = h.0 in let written = h.2 in
    let complex = is_complex g.function in
    let map = map_of complex written.masks in
    record {
      value = (map, g.pins);
      left = map ∷ g.pins ∷ [];
      right = g.pin ++ bytes_of_product written.masks g.function;
      first = record {
        map = map_admitted complex written.masks;
        enough = rw (map_low complex written.masks, ← least_pins_lem g.function) lawful.pins_enough;
        few = lawful.pins_few;
        is = refl;
      };
      second = record {
        value = g.pin;
        left = g.pin;
        right = bytes_of_product written.masks g.function;
        first = record { count = h.1.pins; admitted = λ i l. place_taken 0 lines _ (omega arith) (lawful.named i (omega (arith, h.1.pins))); is = refl };
        second = (
          g.function,
          refl,
          rw (map_low complex written.masks, map_high complex written.masks, low_bits_lem g.pins lawful.pins_few) (record {
            kind = refl;
            exact = h.1.function;
            some = lawful.products_some;
            few = lawful.products_few;
            used_some = λ _ p l. rw (← used_in_lem g.pins g.function p) (lawful.used_some p l);
            used_within = λ p l. rw (← used_in_lem g.pins g.function p) (omega (arith, lawful.used_within p l));
            inverted_used = λ p l. rw (← used_in_lem g.pins g.function p) (lawful.inverted_used p l);
            plain = written.plain;
            is = refl;
          }),
        );
        is = refl;
      };
      is = written.is;
    }

-- reading a gate fits what stands for a lawful gate
pub gate_fits : (lines end : ℕ) → Fits (gate_of lines end) (GateStands lines)
unfolding GateParts
gate_fits lines end =
    fits_like (next_fits (opening_fits end)
    (λ opening. next_fits (row_fits (Pins lines) opening.1 end)
    (λ pin. last_fits (function_fits (bit opening.0 0) (bit opening.0 1) opening.1 end))))
    (gate_to lines) (gate_from lines)

-- what holds of each gate
abbrev EachGate : ℕ → List Gate → Type 0
EachGate lines = All (λ g. LawfulGate lines g × ExactGate g)

-- gates read one after the other are lawful, and so written
chain_gates : (lines : ℕ) {before gates : List Gate} {bytes : List ℕ} → Chain (λ done. GateStands lines) before gates bytes → EachGate lines gates × GatesWritten gates bytes
chain_gates lines none = (tt, no_gates)
chain_gates lines (more h c) = let w = chain_gates lines c in (((h.0, h.1), w.0), more_gates h.2 w.1)

-- and lawful gates so written are read one after the other
gates_chain : (lines : ℕ) (before : List Gate) {gates : List Gate} {bytes : List ℕ} → EachGate lines gates → GatesWritten gates bytes → Chain (λ done. GateStands lines) before gates bytes
gates_chain lines before each no_gates = none
gates_chain lines before each (more_gates {g = g} w ws) = more (each.0.0, each.0.1, w) (gates_chain lines (before ++ g ∷ []) each.1 ws)

-- so many lawful gates over their bytes
abbrev pub GatesStand : ℕ → ℕ → List Gate → List ℕ → Type 0
GatesStand lines n gates bytes = (length gates ≡ n) × ((k : ℕ) → k < n → LawfulGate lines (gate_at gates k) × ExactGate (gate_at gates k)) × GatesWritten gates bytes

-- reading the gates fits what stands for lawful gates
pub gates_fits : (lines n end : ℕ) → Fits (gates_of lines n end) (GatesStand lines n)
gates_fits lines n end =
    fits_like (many_fits (λ before. gate_fits lines end) n [])
    (λ gs bytes h. let w = chain_gates lines h.chain in rw h.is (h.count, (λ k l. All-get_or _ h.items k no_gate (omega (arith, h.count)) w.0), w.1))
    (λ gs bytes h. record { items = gs; count = h.0; is = refl; chain = gates_chain lines [] (All-from_get_or _ gs no_gate (λ k l. h.1 k (omega (arith, h.0)))) h.2 })
