use Rattle.std.proofs.Common.{◌≡◌, ◌<◌, length, rules}
use Rattle.syslog_legacy.proofs.Tags.{bracketed_read, no_bracketed_empty, no_bracketed_open}
use Rattle.syslog_legacy.proofs.tag.bracketed.Goals as goal

pub returns-then-is_empty : goal.returns-then-is_empty
returns-then-is_empty c =
    let none : length c.proc_run.result.0.now ≡ 0 = search rules in
    no_bracketed_empty c.args.octets.now c.proc_run.result.0.now c.proc_run.result.1.now c.proc_run.ensures none

pub returns-in_err-rest : goal.returns-in_err-rest
returns-in_err-rest c =
    rw c.from_residual.ensures (no_bracketed_open c.args.octets.now c.proc_run.result.0.now c.proc_run.result.1.now
    c.proc_run.ensures c.in_err-rest.ensures)

pub returns : goal.returns
returns c =
    let some : 0 < length c.proc_run.result.0.now = search rules in
    bracketed_read c.args.octets.now c.proc_run.result.0.now c.proc_run.result.1.now c.in_ok-rest.rest.now _
    c.proc_run.ensures some c.in_ok-rest.ensures c.nilable.ensures
