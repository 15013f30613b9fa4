use Rattle.std.proofs.Common.{rules, ◌≡◌, ℕ, zero, suc, ◌+◌, ◌-◌, ◌<◌, ◌≤◌, List, ◌∷◌, ◌++◌, length, take, drop, string_bytes, sym, refl, ap, ◌∙◌, ap₂, inl, inr, append_assoc, add-one, arith}
use Rattle.std.proofs.lemmas.List.{length-drop, length-take-le, get_or-take, drop_more}
use Rattle.circuit.specs.declared.netlist.Netlist.{Netlist}
use Rattle.circuit.specs.declared.site.Fault.{Fault}
use Rattle.circuit.specs.declared.site.FaultList.{FaultList}
use Rattle.circuit.specs.Netlists.{fault_at, no_fault, trimmed}
use Rattle.reply.specs.Replies.{counts_text, fault_line, fault_lines}
use Rattle.reply.proofs.text.list.Goals as goal

-- one line more
more : (head before after : List ℕ) (faults : List Fault) (n : ℕ) (f : Fault) → before ≡ head ++ fault_lines faults n → after ≡ before ++ fault_line n f → f ≡ fault_at faults n → after ≡ head ++ fault_lines faults (n + 1)
more head before after faults n f b a e =
    rw (add-one n)
    (a ∙ ap₂ (λ (t : List ℕ) (g : Fault). t ++ fault_line n g) b e ∙ append_assoc head (fault_lines faults n) (fault_line n (fault_at faults n)))

-- the fault that a walk which came to place n takes, and what it leaves
taken : (faults left : List Fault) (n : ℕ) (f : Fault) → n < length faults → f ∷ left ≡ drop n faults → (f ≡ fault_at faults n) × (left ≡ drop (n + 1) faults)
taken faults left n f l e =
    let whole : f ∷ left ≡ fault_at faults n ∷ drop (n + 1) faults = e ∙ drop_more faults n no_fault l in
    (ap (λ (s : List Fault). fault_at s 0) whole, ap (λ (s : List Fault). drop 1 s) whole)

-- a walk that finds nothing left came to its end
spent : (faults : List Fault) (start end count : ℕ) → count ≤ length faults → end ≡ count → start ≤ end → length (drop start faults) ≡ 0 → start ≡ count
spent faults start end count room e l none = let left : length (drop start faults) ≡ length faults - start = length-drop start faults in omega arith

-- only the faults that are needed are listed
lines_same : (faults : List Fault) (count n : ℕ) → n ≤ count → fault_lines faults n ≡ fault_lines (take count faults) n
lines_same faults count zero l = refl
lines_same faults count (suc n) l =
    ap₂ (λ (t : List ℕ) (f : Fault). t ++ fault_line n f) (lines_same faults count n (omega arith)) (sym (get_or-take count faults n _ l))

whole : (n : Netlist) (faults : List Fault) (count : ℕ) → count ≤ length faults
    → counts_text n count ++ fault_lines faults count ≡ counts_text (trimmed n) (length (take count faults)) ++ fault_lines (take count faults) (length (take count faults))
unfolding counts_text
whole n faults count l = rw (length-take-le count faults l) (ap (λ (t : List ℕ). counts_text n count ++ t) (lines_same faults count count (omega arith)))

pub loop-n-preserved : goal.loop-n-preserved
loop-n-preserved c =
    let at : ℕ = c.loop-n.n-iterator.a.start in
    let room : c.args.job.now.faults.count ≤ length c.args.job.now.faults.fault = c.args.job.now.room in
    let step : c.in-Some.fault.now ∷ c.next.new.self.b.rest.now ≡ c.loop-n.n-iterator.b.rest.now = search rules in
    let on : c.next.new.self.a.start ≡ at + 1 = search rules in
    let here : c.in-Some.n ≡ at = search rules in
    let below : at < c.loop-n.n-iterator.a.end = search rules in
    let fault : (c.in-Some.fault.now ≡ fault_at c.args.job.now.faults.fault at) × (c.next.new.self.b.rest.now ≡ drop (at + 1) c.args.job.now.faults.fault)
    = taken _ _ at _ (omega arith) (step ∙ c.loop-n.invariant.1) in
    (rw on (more _ _ _ c.args.job.now.faults.fault at _ c.loop-n.invariant.0 (c.in_ok-add_line.ensures ∙ ap (λ (n : ℕ). string_bytes c.loop-n.text ++ fault_line n c.in-Some.fault.now) here) fault.0), rw on fault.1, search rules, search rules)

pub returns : goal.returns
returns c =
    let same : c.faults-faults.result.now.count ≡ c.args.job.now.faults.count = ap (λ (l : FaultList). l.count) c.faults-faults.ensures in
    let room : c.args.job.now.faults.count ≤ length c.args.job.now.faults.fault = c.args.job.now.room in
    let end : c.loop-n.n-iterator.a.start ≡ c.args.job.now.faults.count = elim c.in-None.ensures.steps as (λ _. c.loop-n.n-iterator.a.start ≡ c.args.job.now.faults.count) [ inl h ↦ search rules | inr h ↦ spent _ _ _ _ room c.loop-n.invariant.3 c.loop-n.invariant.2 (sym (ap (λ (s : List Fault). length s) c.loop-n.invariant.1) ∙ h.1.0) ] in
    c.loop-n.invariant.0 ∙ ap (λ (n : ℕ). counts_text c.args.job.now.circuit.netlist c.args.job.now.faults.count ++ fault_lines c.args.job.now.faults.fault n) end
    ∙ whole c.args.job.now.circuit.netlist c.args.job.now.faults.fault c.args.job.now.faults.count room
