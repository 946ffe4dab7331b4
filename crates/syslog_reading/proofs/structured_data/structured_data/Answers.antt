use Rattle.std.proofs.lemmas.Result.{err_from_is_err_and}
use Rattle.syslog_reading.proofs.DataTexts.{no_data, data_stops}
use Rattle.syslog_reading.proofs.ReadData.{data_differ, data_forms, data_nil, nil_differ, nil_ends, nil_forms}
use Rattle.syslog_reading.proofs.structured_data.structured_data.Goals as goal

pub returns-in_default : goal.returns-in_default
returns-in_default c = record { reads = no_data c.args.octets.now c.in_default.ensures; forms = tt; ids = tt }

pub returns-in_err-rest : goal.returns-in_err-rest
returns-in_err-rest c =
    let p = err_from_is_err_and c.from_residual.result c.from_residual.ensures.1 in
    rw (p.1, p.2) (record {
      reads = data_stops c.args.octets.now c.in-Some.behind.now c.in-Some.first _
          c.in-Some.ensures c.if-first-eq45.false c.in_err-rest.ensures.reads;
      forms = tt;
      ids = tt;
    })

pub returns-then-first-eq45 : goal.returns-then-first-eq45
returns-then-first-eq45 c =
    let nil = data_nil c.args.octets.now c.in-Some.behind.now c.split_at.result.0.now c.in-Some.first c.in-Some.ensures
    c.if-first-eq45.true c.split_at.ensures.front in
    record {
      reads = nil_ends c.args.octets.now c.in-Some.behind.now c.split_at.result.0.now c.in-Some.first
          c.in-Some.ensures c.if-first-eq45.true nil;
      forms = nil_forms c.split_at.result.0.now nil;
      ids = λ u. nil_differ c.split_at.result.0.now nil;
    }

pub returns-clause-forms : goal.returns-clause-forms
returns-clause-forms c = data_forms c.in_ok-rest.is_form c.in_ok-rest.ascends c.in_ok-rest.differ c.args.octets.now
    c.in_ok-rest.rest.now
    c.split_at-2.result.0.now c.in_ok-rest.ensures.forms c.split_at-2.ensures.front

pub returns-clause-ids : goal.returns-clause-ids
returns-clause-ids c = data_differ c.in_ok-rest.is_form c.in_ok-rest.ascends c.in_ok-rest.differ c.args.octets.now
    c.in_ok-rest.rest.now c.split_at-2.result.0.now c.in_ok-rest.ensures.forms c.split_at-2.ensures.front
