use Rattle.std.proofs.Common.{take}
use Rattle.octet_language.specs.Language.{Only}
use Rattle.json.specs.Print.{escape}
use Rattle.syslog_fields.proofs.Appends.{puts_failed}
use Rattle.record_json.proofs.escapes.put_octets.Goals as goal

pub returns-in_err-put_octet : goal.returns-in_err-put_octet
returns-in_err-put_octet c =
    puts_failed (Only (escape (take c.loop-octet.octet-index c.args.octets.now)))
    (Only (escape c.args.octets.now))
    c.args.out.now.items c.loop-octet.out.items c.put_octet.new.out.items c.from_residual.result
    c.from_residual.ensures.0 c.loop-octet.invariant c.in_err-put_octet.ensures
