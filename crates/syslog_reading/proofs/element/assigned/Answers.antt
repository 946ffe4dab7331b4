use Rattle.std.proofs.lemmas.Result.{err_from_is_err_and}
use Rattle.syslog_fields.specs.Stops.{remaining_of}
use Rattle.syslog_fields.proofs.ParamTexts.{no_equals, no_quote, behind_marks}
use Rattle.syslog_reading.proofs.element.assigned.Goals as goal

pub returns-in_err-rest : goal.returns-in_err-rest
returns-in_err-rest c =
    let p = err_from_is_err_and c.from_residual.result c.from_residual.ensures.1 in
    rw (p.1, p.2) (record { reads = no_equals _ _ c.in_err-rest.ensures; form = tt })

pub returns-in_err-rest-2 : goal.returns-in_err-rest-2
returns-in_err-rest-2 c =
    let p = err_from_is_err_and c.from_residual-in_err-rest-2.result c.from_residual-in_err-rest-2.ensures.1 in
    rw (p.1, p.2) (record {
      reads = no_quote _ c.in_ok-rest.rest.now _ c.in_ok-rest.ensures c.in_err-rest-2.ensures;
      form = tt;
    })

pub returns-clause-reads : goal.returns-clause-reads
returns-clause-reads c = behind_marks remaining_of _ c.args.octets.now c.in_ok-rest.rest.now c.in_ok-rest-2.rest.now
    c.value.result c.in_ok-rest.ensures c.in_ok-rest-2.ensures c.value.ensures.reads
