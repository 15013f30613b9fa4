-- What reading accepts is exactly what stands for a lawful job.
use Rattle.std.proofs.Common.{◌≡◌, ℕ, ◌+◌, ◌<◌, ◌≤◌, Bool, true, false, ltb, List, [], ◌∷◌, ◌++◌, length, Some, None, Ok, Err, Option, sym, refl, ap, ◌∙◌, subst, append_assoc, arith}
use Rattle.std.proofs.lemmas.List.{append-nil, nil_from_length}
use Rattle.std.proofs.lemmas.Bool.{ltb-false, le-ltb}
use Rattle.circuit.specs.declared.netlist.Netlist.{Netlist}
use Rattle.circuit.specs.declared.site.Fault.{Fault}
use Rattle.circuit.specs.Gates.{bit}
use Rattle.circuit.specs.Netlists.{fault_at, sited, Lawful, AtRest, restless}
use Rattle.field.specs.Fields.{Reading, next}
use Rattle.format.specs.Descriptions.{Description, Exact, LawfulJob, made}
use Rattle.format.specs.Written.{map_of, GatesWritten, StartGiven, FaultsGiven, Written}
use Rattle.format.specs.Reading.{optional, faults_of, Head, netlist_of, parts_of, rested, graded, finished, job_of}
use Rattle.format.specs.Law.{Exactly}
use Rattle.format.proofs.Bytes.{map_low, map_high, map_admitted, map_flags}
use Rattle.format.proofs.Readers.{Fits, err_ok, past_test, Both, next_fits, fits_like, Last, last_fits, Perhaps, optional_fits}
use Rattle.format.proofs.GateLaw.{GatesStand, gates_fits}
use Rattle.format.proofs.FaultLaw.{FaultsStand, faults_fits, made_sited, made_some}
use Rattle.circuit.proofs.Trimmed.{rest_from_restless, restless_from_rest}
use Rattle.format.proofs.HeadLaw.{HeadStands, head_fits}

-- the faults that the file names, where its flag says so
abbrev NamedFaults : Bool → Netlist → Option (List Fault) → List ℕ → Type 0
NamedFaults flag n = Perhaps flag None (Last Some (FaultsStand n))

-- reading the faults fits
named_fits : (flag : Bool) (n : Netlist) (end : ℕ)
    → Fits (optional flag None (λ s. next (faults_of n.inputs (n.inputs + n.gates) n.gate end s) (λ faults rest. Ok (Some faults, rest)))) (NamedFaults flag n)
named_fits flag n end = optional_fits flag None (last_fits (faults_fits n end))

-- a netlist and its named faults over their bytes
record PartsStand (p : Netlist × Option (List Fault)) (bytes : List ℕ) : Type 0 where
  exact : Exact p.0
  lawful : Lawful p.0
  with_start : Bool
  with_faults : Bool
  start_bytes : List ℕ
  gate_bytes : List ℕ
  fault_bytes : List ℕ
  start : StartGiven with_start (p.0.inputs + p.0.gates) p.0.start start_bytes
  gates : GatesWritten p.0.gate gate_bytes
  faults : NamedFaults with_faults p.0 p.1 fault_bytes
  is : bytes ≡ map_of with_start with_faults ∷ p.0.inputs ∷ p.0.gates ∷ p.0.outputs ∷ (p.0.output ++ (start_bytes ++ (gate_bytes ++ fault_bytes)))

-- the bytes of a file, part by part
Parts : Netlist × Option (List Fault) → List ℕ → Type 0
Parts = Both HeadStands (λ h. Both (GatesStand (h.inputs + h.gates) h.gates) (λ gates. Last (λ faults. (netlist_of h gates, faults)) (NamedFaults (bit h.map 1) (netlist_of h gates))))

-- the parts make the netlist and its faults
parts_to : (p : Netlist × Option (List Fault)) (bytes : List ℕ) → Parts p bytes → PartsStand p bytes
unfolding Parts
parts_to p bytes h =
    let k = h.second in
    let m = h.value in
    let s = h.first in
    let g = k.first in
    rw (k.second.1, h.is, k.is) (record {
      exact = record { gates = g.0; each = λ i l. (g.1 i l).1; outputs = refl; start = s.start_length };
      lawful = record {
        inputs_some = s.inputs_some;
        inputs_few = s.inputs_few;
        gates_some = s.gates_some;
        gates_few = s.gates_few;
        outputs_some = s.outputs_some;
        outputs_few = s.outputs_few;
        gates_lawful = λ i l. (g.1 i l).0;
        gate_lines = s.gate_lines;
        rising = s.rising;
      };
      with_start = bit m.map 0;
      with_faults = bit m.map 1;
      start_bytes = s.start_bytes;
      gate_bytes = k.left;
      fault_bytes = k.right;
      start = s.start;
      gates = g.2;
      faults = k.second.2;
      is = rw (s.is, append_assoc m.output s.start_bytes (k.left ++ k.right), ← map_flags m.map s.map);
    })

-- and these have the parts
parts_from : (p : Netlist × Option (List Fault)) (bytes : List ℕ) → PartsStand p bytes → Parts p bytes
unfolding Parts
parts_from p bytes s =
    let n = p.0 in
    let map = map_of s.with_start s.with_faults in
    let h : Head = record { map = map; inputs = n.inputs; gates = n.gates; output = n.output; start = n.start } in
    let shape : ℕ → Netlist = λ o. record { inputs = n.inputs; gates = n.gates; gate = n.gate; outputs = o; output = n.output; start = n.start } in
    let e : n ≡ netlist_of h n.gate = ap shape (sym s.exact.outputs) in
    record {
      value = h;
      left = map ∷ n.inputs ∷ n.gates ∷ length n.output ∷ (n.output ++ s.start_bytes);
      right = s.gate_bytes ++ s.fault_bytes;
      first = record {
        map = map_admitted s.with_start s.with_faults;
        inputs_some = s.lawful.inputs_some;
        inputs_few = s.lawful.inputs_few;
        gates_some = s.lawful.gates_some;
        gates_few = s.lawful.gates_few;
        outputs_some = omega (arith, s.lawful.outputs_some, s.exact.outputs);
        outputs_few = omega (arith, s.lawful.outputs_few, s.exact.outputs);
        gate_lines = λ i l. s.lawful.gate_lines i (omega (arith, s.exact.outputs));
        rising = λ i l. s.lawful.rising i (omega (arith, s.exact.outputs));
        start_length = s.exact.start;
        start_bytes = s.start_bytes;
        start = rw (map_low s.with_start s.with_faults) s.start;
        is = refl;
      };
      second = record {
        value = n.gate;
        left = s.gate_bytes;
        right = s.fault_bytes;
        first = (s.exact.gates, (λ k l. (s.lawful.gates_lawful k l, s.exact.each k l)), s.gates);
        second = (p.1, ap (λ (x : Netlist). (x, p.1)) e, rw (map_high s.with_start s.with_faults) (subst (λ (x : Netlist). NamedFaults s.with_faults x p.1 s.fault_bytes) e s.faults));
        is = refl;
      };
      is = s.is ∙ rw (s.exact.outputs, append_assoc n.output s.start_bytes (s.gate_bytes ++ s.fault_bytes));
    }

-- reading the parts fits
parts_fits : (end : ℕ) → Fits (parts_of end) PartsStand
unfolding Parts
parts_fits end =
    fits_like (next_fits (head_fits end)
    (λ h. next_fits (gates_fits (h.inputs + h.gates) h.gates end)
    (λ gates. last_fits (named_fits (bit h.map 1) (netlist_of h gates) end))))
    parts_to parts_from

-- what is accepted in the end: a start at rest, and few faults
record Accepted (flag : Bool) (n : Netlist) (bytes : List ℕ) (d : Description) : Type 0 where
  faults : List Fault
  is : d ≡ record { netlist = n; faults = faults }
  rest : AtRest n
  some : 0 < length faults
  few : length faults ≤ 192
  each : (i : ℕ) → i < length faults → sited n (fault_at faults i).site ≡ true
  given : FaultsGiven flag n faults bytes

-- what is accepted at rest is the job itself
rested_sound : (d e : Description) (o : Option ℕ) → rested d o ≡ Ok e → (o ≡ None) × (e ≡ d)
rested_sound d e None h = (refl, (cc))
rested_sound d e (Some line) h = absurd (err_ok h)

-- what is accepted of a netlist and its named faults
graded_sound : (flag : Bool) (n : Netlist) (o : Option (List Fault)) (bytes : List ℕ) (d : Description) → 0 < n.inputs → NamedFaults flag n o bytes → graded n o ≡ Ok d → Accepted flag n bytes d
graded_sound true n o bytes d l f h =
    let g = f.2 in
    let r = rested_sound (record { netlist = n; faults = f.0 }) d (restless n) (rw f.1 at h) in
    record { faults = f.0; is = r.1; rest = rest_from_restless n r.0; some = g.0; few = g.1; each = g.2; given = g.3 }
graded_sound false n o bytes d l f h =
    let q = past_test (ltb 192 (length (made n))) _ _ (rw f.0 at h) in
    let r = rested_sound (record { netlist = n; faults = made n }) d (restless n) q.1 in
    record { faults = made n; is = r.1; rest = rest_from_restless n r.0; some = made_some n l; few = ltb-false 192 (length (made n)) q.0; each = made_sited n; given = (refl, f.1) }

-- the faults that a file with this flag names
abbrev naming : Bool → List Fault → Option (List Fault)
naming true faults = Some faults
naming false faults = None

-- a lawful job is accepted
graded_complete : (flag : Bool) (n : Netlist) (faults : List Fault) (bytes : List ℕ) → length faults ≤ 192 → FaultsGiven flag n faults bytes → AtRest n → graded n (naming flag faults) ≡ Ok (record { netlist = n; faults = faults })
graded_complete true n faults bytes few g r = rw (restless_from_rest n r)
graded_complete false n faults bytes few g r =
    let le : length (made n) ≤ 192 = omega (arith, ap length g.0) in
    rw (g.0, le-ltb 192 (length (made n)) le, restless_from_rest n r)

-- its faults are those that are named, or none are
named_given : (flag : Bool) (n : Netlist) (faults : List Fault) (bytes : List ℕ) → 0 < length faults → length faults ≤ 192 → ((i : ℕ) → i < length faults → sited n (fault_at faults i).site ≡ true) → FaultsGiven flag n faults bytes → NamedFaults flag n (naming flag faults) bytes
named_given true n faults bytes some few each g = (faults, refl, (some, few, each, g))
named_given false n faults bytes some few each g = (refl, g.1)

-- nothing is left over
finished_sound : (end : ℕ) (r : Reading (Netlist × Option (List Fault))) (d : Description) → finished end r ≡ Ok d → (p : Netlist × Option (List Fault)) × (r ≡ Ok (p, [])) × (graded p.0 p.1 ≡ Ok d)
finished_sound end (Err e) d h = absurd (err_ok h)
finished_sound end (Ok p) d h =
    let q = past_test (ltb 0 (length p.1)) _ _ h in
    (p.0, ap (λ (t : List ℕ). Ok (p.0, t)) (nil_from_length p.1 (omega (arith, ltb-false 0 (length p.1) q.0))), q.1)

-- what is accepted is a lawful job, and the file stands for it
job_sound : (file : List ℕ) (d : Description) → job_of file ≡ Ok d → LawfulJob d × Written d file
job_sound file d h =
    let q = finished_sound (length file) (parts_of (length file) file) d h in
    let u = (parts_fits (length file)).sound file q.0 [] q.1 in
    let s = u.1 in
    let w = graded_sound s.with_faults q.0.0 q.0.1 s.fault_bytes d s.lawful.inputs_some s.faults q.2 in
    rw w.is (
      record { exact = s.exact; lawful = s.lawful; rest = w.rest; faults_some = w.some; faults_few = w.few; faults_sited = w.each },
      record {
        with_start = s.with_start;
        with_faults = s.with_faults;
        start_bytes = s.start_bytes;
        gate_bytes = s.gate_bytes;
        fault_bytes = s.fault_bytes;
        start = s.start;
        gates = s.gates;
        faults = w.given;
        is = u.2 ∙ append-nil u.0 ∙ s.is;
      },
    )

-- and every such file is accepted
job_complete : (file : List ℕ) (d : Description) → LawfulJob d → Written d file → job_of file ≡ Ok d
job_complete file d l w =
    let o = naming w.with_faults d.faults in
    let s : PartsStand (d.netlist, o) file = record {
      exact = l.exact;
      lawful = l.lawful;
      with_start = w.with_start;
      with_faults = w.with_faults;
      start_bytes = w.start_bytes;
      gate_bytes = w.gate_bytes;
      fault_bytes = w.fault_bytes;
      start = w.start;
      gates = w.gates;
      faults = named_given w.with_faults d.netlist d.faults w.fault_bytes l.faults_some l.faults_few l.faults_sited w.faults;
      is = w.is;
    } in
    let r = (parts_fits (length file)).complete (d.netlist, o) file [] s in
    ap (λ (x : Reading (Netlist × Option (List Fault))). finished (length file) x) (rw (append-nil file) at r)
    ∙ graded_complete w.with_faults d.netlist d.faults w.fault_bytes l.faults_few w.faults l.rest

-- the law of the format
pub exactly : (file : List ℕ) → Exactly file (job_of file)
exactly file = record { sound = job_sound file; complete = job_complete file }

-- and a netlist that is read, whatever follows it, is lawful but for its start
pub parts_lawful : (end : ℕ) (s rest : List ℕ) (p : Netlist × Option (List Fault)) → parts_of end s ≡ Ok (p, rest) → Lawful p.0
parts_lawful end s rest p h = ((parts_fits end).sound s p rest h).1.lawful
