use Rattle.std.proofs.lemmas.Str.{IsUtf8-string_bytes}
use Rattle.syslog_value.proofs.element.Param.new.Goals as goal

pub invariant_of-result : goal.invariant_of-result
invariant_of-result c = (c.bytes.ensures.valid, IsUtf8-string_bytes c.args.value)
