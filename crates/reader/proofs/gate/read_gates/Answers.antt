use Rattle.std.proofs.Common.{rules}
use Rattle.std.proofs.lemmas.List.{length-take-le}
use Rattle.std.proofs.lemmas.Result.{err_from_is_err_and}
use Rattle.circuit.specs.Netlists.{trimmed_gate}
use Rattle.format.specs.Reading.{gate_of}
use Rattle.reader.proofs.Filled.{first_places, place_refused}
use Rattle.reader.proofs.gate.read_gates.Goals as goal

pub returns-in_err-rest : goal.returns-in_err-rest
returns-in_err-rest c =
    let p = err_from_is_err_and c.from_residual.result c.from_residual.ensures.1 in
    rw (p.1, p.2)
    (place_refused trimmed_gate (λ before. gate_of c.args.lines) c.args.gates _ c.args.s (length-take-le c.args.gates _ c.requires) c.in_err-rest.field-0.0
    (c.in_err-rest.ensures.told.by trimmed_gate (λ before. gate_of c.args.lines) (λ before s r l call. search rules)))

pub returns : goal.returns
returns c =
    first_places trimmed_gate (λ before. gate_of c.args.lines) c.args.gates _ c.args.s (length-take-le c.args.gates _ c.requires) c.fill.new.table _ c.in_ok-rest.rest c.fill.auto.table
    (c.in_ok-rest.ensures.told.by trimmed_gate (λ before. gate_of c.args.lines) (λ before s r l call. search rules))
