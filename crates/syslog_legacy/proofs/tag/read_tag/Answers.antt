use Rattle.std.proofs.Common.{◌≡◌, ◌<◌, length, rules}
use Rattle.syslog_legacy.specs.TagViews.{tag_parts}
use Rattle.syslog_legacy.proofs.Tags.{no_tag_behind, no_tag_empty, tag_read}
use Rattle.syslog_legacy.proofs.tag.read_tag.Goals as goal

pub returns-then-is_empty : goal.returns-then-is_empty
returns-then-is_empty c =
    let none : length c.tag_run.result.0.now ≡ 0 = search rules in
    no_tag_empty c.args.octets.now c.tag_run.result.0.now c.tag_run.result.1.now c.tag_run.ensures none

pub returns-in_err-proc_id : goal.returns-in_err-proc_id
returns-in_err-proc_id c =
    rw c.from_residual.ensures (no_tag_behind c.args.octets.now c.tag_run.result.0.now c.tag_run.result.1.now
    c.tag_run.ensures c.in_err-proc_id.ensures)

pub returns : goal.returns
returns c =
    let some : 0 < length c.tag_run.result.0.now = search rules in
    tag_read c.args.octets.now c.tag_run.result.0.now c.tag_run.result.1.now c.in_ok-proc_id.rest.now
    c.behind_space.result.now
    (tag_parts record { app_name = c.nilable.result; proc_id = c.in_ok-proc_id.proc_id }) c.tag_run.ensures some
    c.nilable.ensures c.in_ok-proc_id.ensures c.behind_space.ensures
