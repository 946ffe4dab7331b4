use Rattle.std.proofs.Common.{take}
use Rattle.octet_language.specs.Language.{Only}
use Rattle.json.specs.Print.{escape}
use Rattle.syslog_fields.specs.Appending.{Adds}
use Rattle.record_json.proofs.escapes.put_octets.Given as goal

abbrev pub invariant-loop-octet : goal.invariant-loop-octet
invariant-loop-octet l = Adds (Only (escape (take l.octet-index l.octets))) l.fn.out.items l.out.items
