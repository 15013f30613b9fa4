use Rattle.std.proofs.Common.{◌≡◌, ℕ, ◌+◌, List, map, take, Ok, Err, sym, ◌∙◌, rules}
use Rattle.std.proofs.lemmas.List.{length-take-le, map-id}
use Rattle.std.proofs.lemmas.Result.{err_from_is_err_and}
use Rattle.refusal.specs.declared.FileFault.{FileFault}
use Rattle.circuit.specs.declared.gate.Gate.{Gate}
use Rattle.circuit.specs.declared.site.Fault.{Fault}
use Rattle.field.specs.declared.byte.Field.TheVariants.{Count}
use Rattle.field.specs.declared.unread.Unread.{Unread}
use Rattle.field.specs.Fields.{byte_of}
use Rattle.field.specs.Answers.{in_a_row}
use Rattle.format.specs.Reading.{fault_of, faults_of}
use Rattle.reader.proofs.Filled.{first_places, place_refused}
use Rattle.reader.proofs.fault.read_faults.Goals as goal

-- faults after their count
module _ (inputs lines : ℕ) (gates : List Gate) (s rest : Unread) (count : ℕ) (end : rest.end ≡ s.end) (is : Ok (count, rest.rest.now) ≡ byte_of (Count 1 192) s.end s.rest.now) where
  read : (fault : List Fault) (left : Unread) → (left.end ≡ rest.end) × (Ok (map (λ (f : Fault). f) (take count fault), left.rest.now) ≡ in_a_row (λ before. fault_of inputs lines gates) count rest.end rest.rest.now)
      → (left.end ≡ s.end) × (Ok (take count fault, left.rest.now) ≡ faults_of inputs lines gates s.end s.rest.now)
  read fault left h = (h.0 ∙ end, rw (sym is) (rw (map-id (take count fault), end) at h.1))

  refused : (e : FileFault) → Err e ≡ in_a_row (λ before. fault_of inputs lines gates) count rest.end rest.rest.now → Err e ≡ faults_of inputs lines gates s.end s.rest.now
  refused e h = rw (sym is) (rw end at h)

pub returns-in_err-rest-clause-is : goal.returns-in_err-rest-clause-is
returns-in_err-rest-clause-is c =
    let p = err_from_is_err_and c.from_residual-in_err-rest.result c.from_residual-in_err-rest.ensures.1 in
    let n = c.args.netlist.now in
    rw (p.1, p.2)
    (refused n.inputs (n.inputs + n.gates) n.gate c.args.s c.in_ok-count.rest c.in_ok-count.count c.in_ok-count.ensures.is.0 c.in_ok-count.ensures.is.1 c.in_err-rest.field-0.0
    (place_refused (λ (f : Fault). f) (λ before. fault_of n.inputs (n.inputs + n.gates) n.gate) c.in_ok-count.count _ c.in_ok-count.rest (length-take-le c.in_ok-count.count _ c.in_ok-count.ensures.bounded.1) c.in_err-rest.field-0.0
    (c.in_err-rest.ensures.told.by (λ (f : Fault). f) (λ before. fault_of n.inputs (n.inputs + n.gates) n.gate) (λ before s r l call. search rules))))

pub returns-clause-is : goal.returns-clause-is
returns-clause-is c =
    let n = c.args.netlist.now in
    read n.inputs (n.inputs + n.gates) n.gate c.args.s c.in_ok-count.rest c.in_ok-count.count c.in_ok-count.ensures.is.0 c.in_ok-count.ensures.is.1 _ c.in_ok-rest.rest
    (first_places (λ (f : Fault). f) (λ before. fault_of n.inputs (n.inputs + n.gates) n.gate) c.in_ok-count.count _ c.in_ok-count.rest (length-take-le c.in_ok-count.count _ c.in_ok-count.ensures.bounded.1) c.fill.new.table _ c.in_ok-rest.rest c.fill.auto.table
    (c.in_ok-rest.ensures.told.by (λ (f : Fault). f) (λ before. fault_of n.inputs (n.inputs + n.gates) n.gate) (λ before s r l call. search rules)))
