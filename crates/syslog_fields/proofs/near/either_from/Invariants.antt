use Rattle.memchr.specs.Find.{Nowhere, Passes, is_byte2}
use Rattle.syslog_fields.proofs.near.either_from.Given as goal

abbrev pub invariant-loop-i : goal.invariant-loop-i
invariant-loop-i l = Nowhere (Passes (is_byte2 l.first l.second) l.octets) 0 l.i
