use Rattle.std.proofs.Common.{◌≡◌, ◌+◌, ◌≤◌, Bool, true, false, not, List, map, length, take, Some, Ok, Err, sym, refl, ◌∙◌, rules}
use Rattle.std.proofs.lemmas.List.{length-take-le}
use Rattle.std.proofs.lemmas.Result.{err_from_is_err_and}
use Rattle.refusal.specs.declared.FileFault.{FileFault}
use Rattle.circuit.specs.declared.gate.Gate.{Gate}
use Rattle.circuit.specs.declared.netlist.Netlist.{Netlist}
use Rattle.circuit.specs.declared.site.Fault.{Fault}
use Rattle.circuit.specs.Gates.{bit}
use Rattle.circuit.specs.Netlists.{trimmed, trimmed_gate}
use Rattle.field.specs.declared.unread.Unread.{Unread}
use Rattle.field.specs.Answers.{whole}
use Rattle.format.specs.Reading.{Head, head_of, gates_of, faults_of, netlist_of, parts_of}
use Rattle.format.proofs.Bytes.{map_high}
use Rattle.reader.specs.Heads.{head_seen}
use Rattle.reader.proofs.Same.{faults_same}
use Rattle.reader.proofs.parts.read_parts.Goals as goal

-- a file with a fault list, whose head and gates are read
module _ (s t u : Unread) (h : Head) (gs table : List Gate) (trim : gs ≡ map trimmed_gate (take h.gates table)) (e₁ : (t.end ≡ s.end) × (Ok (h, t.rest.now) ≡ head_of s.end s.rest.now)) (e₂ : (u.end ≡ t.end) × (Ok (gs, u.rest.now) ≡ gates_of (h.inputs + h.gates) h.gates t.end t.rest.now)) (flag : bit h.map 1 ≡ true) where
  -- the gates, by the length of the file
  gates : Ok (gs, u.rest.now) ≡ gates_of (h.inputs + h.gates) h.gates s.end t.rest.now
  gates = rw e₁.0 at e₂.1

  -- faults are read alike against the whole table
  alike : faults_of h.inputs (h.inputs + h.gates) gs s.end u.rest.now ≡ faults_of h.inputs (h.inputs + h.gates) table u.end u.rest.now
  alike = rw (trim, e₂.0 ∙ e₁.0) (faults_same h.inputs h.gates s.end table u.rest.now)

  read : (v : Unread) (fs : List Fault) (n : Netlist) → (v.end ≡ u.end) × (Ok (fs, v.rest.now) ≡ faults_of h.inputs (h.inputs + h.gates) table u.end u.rest.now) → n ≡ netlist_of h gs → (v.end ≡ s.end) × (Ok ((n, Some fs), v.rest.now) ≡ parts_of s.end s.rest.now)
  read v fs n e₃ same = (e₃.0 ∙ e₂.0 ∙ e₁.0, rw (sym e₁.1, sym gates, flag, alike, sym e₃.1, same))

  refused : (e : FileFault) → Err e ≡ faults_of h.inputs (h.inputs + h.gates) table u.end u.rest.now → Err e ≡ parts_of s.end s.rest.now
  refused e e₃ = rw (sym e₁.1, sym gates, flag, alike, sym e₃)

-- what is not absent is present
present : (flag : Bool) → not flag ≡ false → flag ≡ true
present true h = refl
present false h = sym h

-- the netlist that is put together
together : (n : Netlist) (h : Head) → h.inputs ≡ n.inputs → h.gates ≡ n.gates → h.output ≡ take n.outputs n.output → h.start ≡ take (n.inputs + n.gates) n.start → n.outputs ≤ length n.output → trimmed n ≡ netlist_of h (map trimmed_gate (take n.gates n.gate))
together n h a b o s l = rw (a, b, o, s, length-take-le n.outputs n.output l)

pub returns-in_err-list-clause-is : goal.returns-in_err-list-clause-is
returns-in_err-list-clause-is c =
    let p = err_from_is_err_and c.from_residual-in_err-list.result c.from_residual-in_err-list.ensures.1 in
    let h = c.in_ok-head.head in
    rw (p.1, p.2)
    (refused (whole c.args.file) c.in_ok-head.rest c.in_ok-gate.rest (head_seen h) _ c.in_ok-gate.gate refl (rw (c.new.ensures.0, c.new.ensures.1) at c.in_ok-head.ensures.is) c.in_ok-gate.ensures (map_high h.with_start h.with_faults ∙ present _ c.if-not-head.false) c.in_err-list.field-0.0 c.in_err-list.ensures.is)

pub returns-clause-is : goal.returns-clause-is
returns-clause-is c =
    let h = c.in_ok-head.head in
    let n : Netlist = record { inputs = h.inputs; gates = h.gates; gate = c.in_ok-gate.gate; outputs = h.outputs; output = h.output; start = h.start } in
    let l : h.outputs ≤ length h.output = search rules in
    read (whole c.args.file) c.in_ok-head.rest c.in_ok-gate.rest (head_seen h) _ c.in_ok-gate.gate refl (rw (c.new.ensures.0, c.new.ensures.1) at c.in_ok-head.ensures.is) c.in_ok-gate.ensures (map_high h.with_start h.with_faults ∙ present _ c.if-not-head.false) c.in_ok-list.rest _ (trimmed n) c.in_ok-list.ensures.is (together n (head_seen h) refl refl refl refl l)
