-- From the parts of a file to its job: what is left over, which faults are graded, and that the job is lawful.
use Rattle.std.proofs.Common.{◌≡◌, ℕ, zero, suc, ◌+◌, ◌-◌, ◌<◌, ◌≤◌, true, List, ◌++◌, map, length, take, Some, None, Ok, Err, Option, Result, MatchResult, sym, refl, ap, ◌∙◌, subst, ap₂, arith, le-ltb, lt-ltb}
use Rattle.std.proofs.lemmas.List.{length-take-le, get_or-take}
use Rattle.refusal.specs.declared.FileFault.{FileFault}
use Rattle.refusal.specs.declared.FileFault.TheVariants.{Overlong}
use Rattle.refusal.specs.declared.CircuitFault.{CircuitFault}
use Rattle.refusal.specs.declared.CircuitFault.TheVariants.{File, Crowded, Restless}
use Rattle.circuit.specs.declared.circuit.Circuit.{Circuit}
use Rattle.circuit.specs.declared.gate.Gate.{Gate}
use Rattle.circuit.specs.declared.netlist.Netlist.{Netlist}
use Rattle.circuit.specs.declared.site.Fault.{Fault}
use Rattle.circuit.specs.declared.site.FaultList.{FaultList}
use Rattle.circuit.specs.Netlists.{fault_at, trimmed, trimmed_gate, restless, sited, Lawful}
use Rattle.circuit.proofs.Trimmed.{gate_at_trimmed, lawful_from_trimmed, restless_trimmed, sited_trimmed}
use Rattle.format.specs.Descriptions.{Description, LawfulJob, stems, pins_of, gate_pins, made}
use Rattle.format.specs.Law.{Exactly}
use Rattle.format.specs.Reading.{parts_of, rested, graded, job_of}
use Rattle.reader.specs.Parts.{listed, listed_in}
use Rattle.format.proofs.JobLaw.{exactly, parts_lawful}

-- a netlist that is read is lawful but for its start
pub netlist_lawful : (file rest : List ℕ) (n : Netlist) (o : Option (List Fault)) → Ok ((trimmed n, o), rest) ≡ parts_of (length file) file → Lawful n
netlist_lawful file rest n o h = lawful_from_trimmed n (parts_lawful (length file) file rest (trimmed n, o) (sym h))

-- a file whose fields are refused
pub fields_refused : (file : List ℕ) (e : FileFault) → Err e ≡ parts_of (length file) file → Err (File e) ≡ job_of file
fields_refused file e h = rw (sym h)

-- bytes left over
pub left_over : (file rest : List ℕ) (p : Netlist × Option (List Fault)) → Ok (p, rest) ≡ parts_of (length file) file → 0 < length rest → Err (File (Overlong (length file - length rest))) ≡ job_of file
left_over file rest p h l = rw (sym h, lt-ltb 0 (length rest) l)

-- and none
pub used_up : (file rest : List ℕ) (p : Netlist × Option (List Fault)) → Ok (p, rest) ≡ parts_of (length file) file → length rest ≤ 0 → graded p.0 p.1 ≡ job_of file
used_up file rest p h l = rw (sym h, le-ltb 0 (length rest) l)

-- the made list speaks only of the gates that are needed
gate_pins_same : (inputs n k : ℕ) (gs : List Gate) → k ≤ n → gate_pins inputs (map trimmed_gate (take n gs)) k ≡ gate_pins inputs gs k
gate_pins_same inputs n zero gs l = refl
gate_pins_same inputs n (suc k) gs l =
    ap₂ (λ (xs : List Fault) (pins : ℕ). xs ++ pins_of (inputs + k) pins) (gate_pins_same inputs n k gs (omega arith)) (ap (λ (g : Gate). g.pins) (gate_at_trimmed gs n k (omega arith)))

pub made_trimmed : (n : Netlist) → made (trimmed n) ≡ made n
unfolding made
made_trimmed n = ap (λ (xs : List Fault). stems (n.inputs + n.gates) ++ xs) (gate_pins_same n.inputs n.gates n.gates n.gate (omega arith))

-- faults made where the file names none
pub made_graded : (n : Netlist) (faults : List Fault) → faults ≡ made n → length (made n) ≤ 192 → graded (trimmed n) None ≡ rested (record { netlist = trimmed n; faults = faults }) (restless (trimmed n))
made_graded n faults e l = rw (made_trimmed n, le-ltb 192 (length (made n)) l, e)

pub made_crowded : (n : Netlist) → 192 < length (made n) → graded (trimmed n) None ≡ Err (Crowded (length (made n)))
made_crowded n l = rw (made_trimmed n, lt-ltb 192 (length (made n)) l)

-- the made list is graded where the file names none
pub made_list_graded : (n : Netlist) (o : Option FaultList) → o ≡ None → (r : Result FaultList CircuitFault)
    → MatchResult r (λ list. (take list.count list.fault ≡ made n) × (length (made n) ≤ 192) × (list.count ≤ 192)) (λ e. (e ≡ Crowded (length (made n))) × (192 < length (made n)))
    → MatchResult r (λ list. (list.count ≤ 192) × (graded (trimmed n) (listed_in o) ≡ rested (record { netlist = trimmed n; faults = listed list }) (restless (trimmed n)))) (λ e. graded (trimmed n) (listed_in o) ≡ Err e)
made_list_graded n o e (Ok list) w = (w.2, ap (λ (o : Option FaultList). graded (trimmed n) (listed_in o)) e ∙ made_graded n _ w.0 w.1)
made_list_graded n o e (Err f) w = ap (λ (o : Option FaultList). graded (trimmed n) (listed_in o)) e ∙ made_crowded n w.1 ∙ ap Err (sym w.0)

-- the answer to a file obeys the law of the format
pub law_of : (file : List ℕ) (r : Result Description CircuitFault) → r ≡ job_of file → Exactly file r
law_of file r e = subst (Exactly file) (sym e) (exactly file)

-- a job that is given is lawful, so its faults are on sites of its circuit
module _ (file : List ℕ) (n : Netlist) (count : ℕ) (table : List Fault) (given : job_of file ≡ Ok (record { netlist = trimmed n; faults = take count table })) (room : count ≤ length table) where
  lawful_job : LawfulJob (record { netlist = trimmed n; faults = take count table })
  lawful_job = ((exactly file).sound _ given).0

  pub faults_some : 0 < count
  faults_some = let l : length (take count table) ≡ count = length-take-le count table room in omega (arith, lawful_job.faults_some)

  pub faults_placed : (i : ℕ) → i < count → sited n (fault_at table i).site ≡ true
  faults_placed i lt =
      let l : length (take count table) ≡ count = length-take-le count table room in
      let here : i < length (take count table) = omega arith in
      sym (sited_trimmed n (fault_at table i).site) ∙ rw (get_or-take count table i _ lt) at (lawful_job.faults_sited i here)

-- the last check, of a file whose fields are read and used up, with its faults
module _ (file rest : List ℕ) (n : Netlist) (o : Option (List Fault)) (faults : List Fault) (is : Ok ((trimmed n, o), rest) ≡ parts_of (length file) file) (end : length rest ≤ 0)
    (left : graded (trimmed n) o ≡ rested (record { netlist = trimmed n; faults = faults }) (restless (trimmed n))) where
  checked : (r : Option ℕ) → restless n ≡ r → job_of file ≡ rested (record { netlist = trimmed n; faults = faults }) r
  checked r e = sym (used_up file rest (trimmed n, o) is end) ∙ left ∙ ap (rested (record { netlist = trimmed n; faults = faults })) (restless_trimmed n (netlist_lawful file rest n o is) ∙ e)

  pub at_rest : restless n ≡ None → job_of file ≡ Ok (record { netlist = trimmed n; faults = faults })
  at_rest e = checked None e

  pub not_at_rest : (line : ℕ) → restless n ≡ Some line → Err (Restless line) ≡ job_of file
  not_at_rest line e = sym (checked (Some line) e)

-- what is known of the start once its refusal is named
module _ (n : Netlist) (told : Result Circuit ℕ) (is : MatchResult told (λ c. (c.netlist ≡ n) × (restless n ≡ None)) (λ line. restless n ≡ Some line)) (P : ℕ → Type 0) where
  pub given_circuit : (c : Circuit) → MatchResult told (λ d. ◌≡◌ {A = Result Circuit CircuitFault} (Ok c) (Ok d)) P → ((line : ℕ) → P line → ⊥) → (c.netlist ≡ n) × (restless n ≡ None)
  given_circuit c named never = go told is named
    where
      go : (told : Result Circuit ℕ) → MatchResult told (λ c. (c.netlist ≡ n) × (restless n ≡ None)) (λ line. restless n ≡ Some line) → MatchResult told (λ d. ◌≡◌ {A = Result Circuit CircuitFault} (Ok c) (Ok d)) P → (c.netlist ≡ n) × (restless n ≡ None)
      go (Ok d) w e = (let same : c ≡ d = cc in ap (λ (x : Circuit). x.netlist) same ∙ w.0, w.1)
      go (Err line) w e = absurd (never line e)

  pub given_line : (f : CircuitFault) → MatchResult told (λ d. ◌≡◌ {A = Result Circuit CircuitFault} (Err f) (Ok d)) P → ((line : ℕ) → P line → f ≡ Restless line) → (line : ℕ) × (f ≡ Restless line) × (restless n ≡ Some line)
  given_line f named by = go told is named
    where
      go : (told : Result Circuit ℕ) → MatchResult told (λ c. (c.netlist ≡ n) × (restless n ≡ None)) (λ line. restless n ≡ Some line) → MatchResult told (λ d. ◌≡◌ {A = Result Circuit CircuitFault} (Err f) (Ok d)) P → (line : ℕ) × (f ≡ Restless line) × (restless n ≡ Some line)
      go (Ok d) w e = absurd (let z : ◌≡◌ {A = ℕ} 0 1 = cc in omega arith)
      go (Err line) w e = (line, by line e, w)
