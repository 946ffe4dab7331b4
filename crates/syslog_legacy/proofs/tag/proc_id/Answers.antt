use Rattle.syslog_legacy.proofs.Tags.{no_proc_behind, no_proc_first, no_proc_inside, proc_none, proc_read}
use Rattle.syslog_legacy.proofs.tag.proc_id.Goals as goal

pub returns-in_err-rest : goal.returns-in_err-rest
returns-in_err-rest c = rw c.from_residual.ensures
    (no_proc_first c.args.octets.now c.in_default.ensures c.in_err-rest.ensures)

pub returns-in_default : goal.returns-in_default
returns-in_default c = proc_none c.args.octets.now c.in_ok-rest.rest.now c.in_ok-rest.ensures

pub returns-in_err-proc_id : goal.returns-in_err-proc_id
returns-in_err-proc_id c = rw c.from_residual-in_err-proc_id.ensures
    (no_proc_inside c.args.octets.now c.in-Some.inside.now c.in-Some.ensures c.in_err-proc_id.ensures)

pub returns-in_err-rest-2 : goal.returns-in_err-rest-2
returns-in_err-rest-2 c =
    rw c.from_residual-in_err-rest-2.ensures (no_proc_behind _ c.args.octets.now c.in-Some.inside.now
    c.in_ok-proc_id.rest.now c.in-Some.ensures c.in_ok-proc_id.ensures c.in_err-rest-2.ensures)

pub returns : goal.returns
returns c = proc_read _ c.args.octets.now c.in-Some.inside.now c.in_ok-proc_id.rest.now c.in_ok-rest-2.rest.now
    c.in-Some.ensures c.in_ok-proc_id.ensures c.in_ok-rest-2.ensures
