use Rattle.std.proofs.Common.{take}
use Rattle.octet_language.specs.Language.{Only}
use Rattle.syslog_fields.specs.Appending.{Adds}
use Rattle.frame_engine.specs.Showing.{hex_escaped}
use Rattle.frame_engine.proofs.record_lines.put_octets.Given as goal

abbrev pub invariant-loop-octet : goal.invariant-loop-octet
invariant-loop-octet l = Adds (Only (hex_escaped (take l.octet-index l.octets))) l.fn.out.items l.out.items
