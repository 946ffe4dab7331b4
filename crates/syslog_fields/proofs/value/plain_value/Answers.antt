use Rattle.std.proofs.Common.{subst, sym}
use Rattle.std.specs.List.{AllByRecursion}
use Rattle.syslog_fields.specs.Values.{IsPlainOctet}
use Rattle.syslog_fields.proofs.MarkedValues.{halves, quoted}
use Rattle.syslog_fields.proofs.value.plain_value.Goals as goal

pub returns-in-Ok : goal.returns-in-Ok
returns-in-Ok c = (
  quoted c.args.octets.now c.split_at.result.0.now c.split_at.result.1.now c.in-Ok.behind.now
      (halves c.args.octets.now c.split_at.result.0.now c.split_at.result.1.now c.plain_len.result
      c.split_at.ensures.front c.split_at.ensures.back)
      c.in-Ok.ensures,
  subst (AllByRecursion IsPlainOctet) (sym c.split_at.ensures.front) c.plain_len.ensures.plain,
)
