-- The faults of a job: which bytes stand for them, that the reader takes just those, and that the made list names sites that the netlist has.
use Rattle.std.proofs.Common.{◌≡◌, ℕ, zero, suc, ◌+◌, ◌-◌, ◌<◌, ◌≤◌, Bool, true, false, cond, List, [], ◌∷◌, ◌++◌, length, Ok, sym, refl, ap, ◌∙◌, arith}
use Rattle.std.specs.List.{flat_map, AllByRecursion as All}
use Rattle.std.proofs.lemmas.List.{length-append}
use Rattle.std.proofs.ByRecursion.{All-append, All-get_or, All-from_get_or}
use Rattle.std.proofs.lemmas.Bool.{true≢false, false≢true, lt-ltb, le-leb, and_from}
use Rattle.std.proofs.lemmas.Bool.Decides.{nat_tests}
use Rattle.circuit.specs.declared.netlist.Netlist.{Netlist}
use Rattle.circuit.specs.declared.site.Site.{Site}
use Rattle.circuit.specs.declared.site.Site.TheVariants.{Stem, Pin}
use Rattle.circuit.specs.declared.site.Fault.{Fault}
use Rattle.circuit.specs.Gates.{bit}
use Rattle.circuit.specs.Netlists.{gate_at, no_fault, fault_at, sited}
use Rattle.field.specs.declared.byte.Field.TheVariants.{Count, Bits, Place}
use Rattle.field.specs.Fields.{Reading, byte_of, next}
use Rattle.field.proofs.Steps.{bounds_kept}
use Rattle.format.specs.Descriptions.{both_stuck, stems, pins_of, gate_pins, made}
use Rattle.format.specs.Reading.{fault_of, faults_of}
use Rattle.format.specs.Written.{map_of, bytes_of_fault, FaultsGiven}
use Rattle.format.proofs.Bytes.{count_taken, map_low, map_high, map_admitted, map_flags}
use Rattle.format.proofs.Readers.{Fits, Both, Last, Chain, ByteStands, byte_fits, next_fits, last_fits, many_fits, fits_like}
use Rattle.format.proofs.Readers.Chain.{none, more}

-- whether a fault's map says that a pin byte follows
abbrev pinned : Site → Bool
pinned (Stem line) = false
pinned (Pin line pin) = true

-- the bytes after the map
abbrev bytes_of_site : Site → List ℕ
bytes_of_site (Stem line) = line ∷ []
bytes_of_site (Pin line pin) = line ∷ pin ∷ []

-- a fault's bytes, split after the map
fault_bytes : (site : Site) (stuck : Bool) → bytes_of_fault site stuck ≡ map_of stuck (pinned site) ∷ bytes_of_site site
fault_bytes (Stem line) stuck = refl
fault_bytes (Pin line pin) stuck = refl

-- 1 to 192 faults on sites that the netlist has, over their bytes
abbrev pub FaultsStand : Netlist → List Fault → List ℕ → Type 0
FaultsStand n faults bytes = (0 < length faults) × (length faults ≤ 192) × ((i : ℕ) → i < length faults → sited n (fault_at faults i).site ≡ true) × FaultsGiven true n faults bytes

-- the bytes of a fault
abbrev bytes_of : Fault → List ℕ
bytes_of f = bytes_of_fault f.site f.stuck

module _ (n : Netlist) where
  -- the bytes after the map stand for the fault, where the map has these flags
  record SiteStands (high low : Bool) (f : Fault) (bytes : List ℕ) : Type 0 where
    pub stuck : f.stuck ≡ low
    pub pin : pinned f.site ≡ high
    pub has : sited n f.site ≡ true
    pub is : bytes ≡ bytes_of_site f.site

  -- the number of lines
  abbrev lines : ℕ
  lines = n.inputs + n.gates

  -- a fault of a line, as it is read
  abbrev StemStands : Bool → Fault → List ℕ → Type 0
  StemStands low = Last (λ line. record { site = Stem line; stuck = low }) (ByteStands (Place 0 lines))

  -- is what stands after a map with no pin
  stem_to : (low : Bool) (f : Fault) (bytes : List ℕ) → StemStands low f bytes → SiteStands false low f bytes
  stem_to low f bytes h = rw (h.1, h.2.1) (record { stuck = refl; pin = refl; has = lt-ltb _ _ (bounds_kept (Place 0 lines) h.0 h.2.0).1; is = refl })

  -- and all of it
  stem_from : (low stuck : Bool) (site : Site) (bytes : List ℕ) → SiteStands false low (record { site = site; stuck = stuck }) bytes → StemStands low (record { site = site; stuck = stuck }) bytes
  stem_from low stuck (Stem line) bytes h = (line, ap (λ (b : Bool). record { site = Stem line; stuck = b }) h.stuck, (grind (arith, nat_tests, h.has), h.is))
  stem_from low stuck (Pin line pin) bytes h = absurd (true≢false h.pin)

  -- a fault of a pin, as it is read
  abbrev PinStands : Bool → Fault → List ℕ → Type 0
  PinStands low = Both (ByteStands (Place n.inputs lines)) (λ line. Last (λ pin. record { site = Pin line pin; stuck = low }) (ByteStands (Place 0 (gate_at n.gate (line - n.inputs)).pins)))

  -- is what stands after a map with a pin
  pin_to : (low : Bool) (f : Fault) (bytes : List ℕ) → PinStands low f bytes → SiteStands true low f bytes
  pin_to low f bytes h =
      let k = h.second in
      rw (k.1, h.is, h.first.1, k.2.1) (record { stuck = refl; pin = refl; has = grind (arith, nat_tests, h.first.0, k.2.0); is = refl })

  -- and all of it
  pin_from : (low stuck : Bool) (site : Site) (bytes : List ℕ) → SiteStands true low (record { site = site; stuck = stuck }) bytes → PinStands low (record { site = site; stuck = stuck }) bytes
  pin_from low stuck (Stem line) bytes h = absurd (false≢true h.pin)
  pin_from low stuck (Pin line pin) bytes h = record {
    value = line;
    left = line ∷ [];
    right = pin ∷ [];
    first = (grind (arith, nat_tests, h.has), refl);
    second = (pin, ap (λ (b : Bool). record { site = Pin line pin; stuck = b }) h.stuck, (grind (arith, nat_tests, h.has), refl));
    is = h.is;
  }

  -- the reader of what follows a fault's map
  abbrev site_of : Bool → Bool → ℕ → List ℕ → Reading Fault
  site_of high low end s =
      next (byte_of (Place (cond high n.inputs 0) lines) end s) (λ line s.
      cond high
      (next (byte_of (Place 0 (gate_at n.gate (line - n.inputs)).pins) end s) (λ pin s. Ok (record { site = Pin line pin; stuck = low }, s)))
      (Ok (record { site = Stem line; stuck = low }, s)))

  -- what follows the map is read just where the bytes stand for the fault
  site_fits : (high low : Bool) (end : ℕ) → Fits (site_of high low end) (SiteStands high low)
  site_fits false low end =
      fits_like (last_fits (byte_fits (Place 0 lines) end)) (stem_to low) (λ f bytes h. stem_from low f.stuck f.site bytes h)
  site_fits true low end =
      fits_like (next_fits (byte_fits (Place n.inputs lines) end)
      (λ line. last_fits (byte_fits (Place 0 (gate_at n.gate (line - n.inputs)).pins) end)))
      (pin_to low) (λ f bytes h. pin_from low f.stuck f.site bytes h)

  -- the bytes of a fault on a site that the netlist has
  abbrev pub FaultStands : Fault → List ℕ → Type 0
  FaultStands f bytes = (sited n f.site ≡ true) × (bytes ≡ bytes_of f)

  -- a map and what follows it are the bytes of a fault
  fault_to : (f : Fault) (bytes : List ℕ) → Both (ByteStands (Bits 3)) (λ map. SiteStands (bit map 1) (bit map 0)) f bytes → FaultStands f bytes
  fault_to f bytes h =
      let map_is : h.value ≡ map_of f.stuck (pinned f.site) = rw (h.second.stuck, h.second.pin) (map_flags h.value h.first.0) in
      (h.second.has, rw (h.is, h.first.1, h.second.is) (ap (λ (m : ℕ). m ∷ bytes_of_site f.site) map_is ∙ sym (fault_bytes f.site f.stuck)))

  -- and the other way round
  fault_from : (f : Fault) (bytes : List ℕ) → FaultStands f bytes → Both (ByteStands (Bits 3)) (λ map. SiteStands (bit map 1) (bit map 0)) f bytes
  fault_from f bytes h = record {
    value = map_of f.stuck (pinned f.site);
    left = map_of f.stuck (pinned f.site) ∷ [];
    right = bytes_of_site f.site;
    first = (map_admitted f.stuck (pinned f.site), refl);
    second = record { stuck = sym (map_low f.stuck (pinned f.site)); pin = sym (map_high f.stuck (pinned f.site)); has = h.0; is = refl };
    is = h.1 ∙ fault_bytes f.site f.stuck;
  }

  -- a fault is read just where the bytes stand for it
  pub fault_fits : (end : ℕ) → Fits (fault_of n.inputs (n.inputs + n.gates) n.gate end) FaultStands
  fault_fits end =
      fits_like (next_fits (byte_fits (Bits 3) end) (λ map. site_fits (bit map 1) (bit map 0) end)) fault_to fault_from

  -- each fault of a list is on a site that the netlist has
  abbrev Sited : List Fault → Type 0
  Sited = All (λ f. sited n f.site ≡ true)

  -- faults read in a row are the bytes of each, joined
  chain_joined : {before items : List Fault} {bytes : List ℕ} → Chain (λ done. FaultStands) before items bytes → Sited items × (bytes ≡ flat_map bytes_of items)
  chain_joined none = (tt, refl)
  chain_joined (more h c) = let w = chain_joined c in ((h.0, w.0), rw (h.1, w.1))

  -- and the other way round
  joined_chain : (before items : List Fault) → Sited items → Chain (λ done. FaultStands) before items (flat_map bytes_of items)
  joined_chain before [] h = none
  joined_chain before (f ∷ items) h = more (h.0, refl) (joined_chain (before ++ f ∷ []) items h.1)

  -- a counted list of faults is read just where the bytes stand for it
  pub faults_fits : (end : ℕ) → Fits (faults_of n.inputs (n.inputs + n.gates) n.gate end) (FaultsStand n)
  faults_fits end =
      fits_like (next_fits (byte_fits (Count 1 192) end) (λ count. many_fits (λ done. fault_fits end) count []))
      (λ faults bytes h.
      let w = chain_joined h.second.chain in
      let count : length faults ≡ h.value = rw h.second.is h.second.count in
      let bounds = bounds_kept (Count 1 192) h.value h.first.0 in (
        omega (arith, bounds.0),
        omega (arith, bounds.1),
        rw h.second.is (λ i l. All-get_or _ h.second.items i no_fault l w.0),
        rw (h.is, h.first.1, w.1, h.second.is) (ap (λ (c : ℕ). c ∷ flat_map bytes_of h.second.items) (sym h.second.count)),
      ))
      (λ faults bytes h. record {
        value = length faults;
        left = length faults ∷ [];
        right = flat_map bytes_of faults;
        first = (count_taken 1 192 _ h.0 h.1, refl);
        second = record { items = faults; count = refl; is = refl; chain = joined_chain [] faults (All-from_get_or _ faults no_fault h.2) };
        is = h.3;
      })

  -- the first lines are lines of the netlist
  stems_sited : (m : ℕ) → m ≤ n.inputs + n.gates → Sited (stems m)
  stems_sited zero h = tt
  stems_sited (suc line) h =
      let e = lt-ltb line (n.inputs + n.gates) (omega arith) in
      All-append _ (stems line) (both_stuck (Stem line)) (stems_sited line (omega arith)) (e, (e, tt))

  -- the first pins of a gate are pins of it
  pins_sited : (line pins : ℕ) → n.inputs ≤ line → line < n.inputs + n.gates → pins ≤ (gate_at n.gate (line - n.inputs)).pins → Sited (pins_of line pins)
  pins_sited line zero a b c = tt
  pins_sited line (suc pin) a b c =
      let e = and_from _ _ (le-leb _ _ a) (and_from _ _ (lt-ltb _ _ b) (lt-ltb pin (gate_at n.gate (line - n.inputs)).pins (omega arith))) in
      All-append _ (pins_of line pin) (both_stuck (Pin line pin)) (pins_sited line pin a b (omega arith)) (e, (e, tt))

  -- and so are those of the first gates
  gates_sited : (k : ℕ) → k ≤ n.gates → Sited (gate_pins n.inputs n.gate k)
  gates_sited zero h = tt
  gates_sited (suc k) h =
      let e : n.inputs + k - n.inputs ≡ k = omega arith in
      All-append _ (gate_pins n.inputs n.gate k) (pins_of (n.inputs + k) (gate_at n.gate k).pins) (gates_sited k (omega arith))
      (pins_sited (n.inputs + k) (gate_at n.gate k).pins (omega arith) (omega arith) (rw e (omega arith)))

  -- every fault of the made list is on a site that the netlist has
  pub made_sited : (i : ℕ) → i < length (made n) → sited n (fault_at (made n) i).site ≡ true
  unfolding made
  made_sited i l =
      All-get_or _ (made n) i no_fault l
      (All-append _ (stems (n.inputs + n.gates)) (gate_pins n.inputs n.gate n.gates) (stems_sited (n.inputs + n.gates) (omega arith)) (gates_sited n.gates (omega arith)))

-- where there is a line there is a fault
stems_some : (m : ℕ) → 0 < m → 0 < length (stems m)
stems_some zero h = absurd (omega arith)
stems_some (suc line) h = rw (length-append (stems line) (both_stuck (Stem line))) (omega arith)

-- so the made list is not empty
pub made_some : (n : Netlist) → 0 < n.inputs → 0 < length (made n)
unfolding made
made_some n h =
    rw (length-append (stems (n.inputs + n.gates)) (gate_pins n.inputs n.gate n.gates))
    (omega (arith, stems_some (n.inputs + n.gates) (omega arith)))
