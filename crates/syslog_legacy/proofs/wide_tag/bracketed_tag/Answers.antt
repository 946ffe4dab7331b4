use Rattle.std.proofs.Common.{◌≡◌, ◌<◌, length, rules}
use Rattle.syslog_legacy.specs.TagViews.{tag_parts}
use Rattle.syslog_legacy.proofs.WideTags.{bracketed_tag_read, no_inside, no_name, no_opening}
use Rattle.syslog_legacy.proofs.wide_tag.bracketed_tag.Goals as goal

pub returns-then-is_empty : goal.returns-then-is_empty
returns-then-is_empty c =
    let none : length c.tag_run.result.0.now ≡ 0 = search rules in
    no_name c.args.octets.now c.tag_run.result.0.now c.tag_run.result.1.now c.tag_run.ensures none

pub returns-in_err-inside : goal.returns-in_err-inside
returns-in_err-inside c =
    rw c.from_residual.ensures (no_opening c.args.octets.now c.tag_run.result.0.now c.tag_run.result.1.now
    c.tag_run.ensures c.in_err-inside.ensures)

pub returns-in_err-proc_id : goal.returns-in_err-proc_id
returns-in_err-proc_id c =
    rw c.from_residual-in_err-proc_id.ensures (no_inside c.args.octets.now c.tag_run.result.0.now
    c.tag_run.result.1.now c.in_ok-inside.inside.now c.tag_run.ensures c.in_ok-inside.ensures
    c.in_err-proc_id.ensures)

pub returns : goal.returns
returns c =
    let some : 0 < length c.tag_run.result.0.now = search rules in
    bracketed_tag_read c.args.octets.now c.tag_run.result.0.now c.tag_run.result.1.now c.in_ok-inside.inside.now
    c.in_ok-proc_id.rest.now
    (tag_parts record { app_name = c.nilable.result; proc_id = c.in_ok-proc_id.proc_id }) c.tag_run.ensures some
    c.nilable.ensures c.in_ok-inside.ensures c.in_ok-proc_id.ensures
