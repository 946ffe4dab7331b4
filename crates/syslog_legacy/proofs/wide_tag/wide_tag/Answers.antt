use Rattle.syslog_legacy.specs.TagViews.{tag_parts}
use Rattle.syslog_legacy.proofs.WideTags.{no_separator, no_wide_tag}
use Rattle.syslog_legacy.proofs.wide_tag.wide_tag.Goals as goal

pub returns-in_err-tag : goal.returns-in_err-tag
returns-in_err-tag c =
    rw c.from_residual.ensures (no_wide_tag c.args.octets.now c.in_default.ensures c.in_err-tag.ensures)

pub returns-in_err-rest : goal.returns-in_err-rest
returns-in_err-rest c =
    rw c.from_residual-in_err-rest.ensures (no_separator c.args.octets.now c.in_ok-tag.rest.now
    (tag_parts c.in_ok-tag.tag) c.in_default.ensures c.in_ok-tag.ensures c.in_err-rest.ensures)
