use Rattle.memchr.specs.Find.{Nowhere, Passes}
use Rattle.record_json.specs.Texts.{is_escaped}
use Rattle.record_json.proofs.stops.escaped_from.Given as goal

abbrev pub invariant-loop-i : goal.invariant-loop-i
invariant-loop-i l = Nowhere (Passes is_escaped l.octets) 0 l.i
