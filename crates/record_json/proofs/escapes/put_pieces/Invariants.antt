use Rattle.std.proofs.Common.{length}
use Rattle.record_json.proofs.Escaping.{Escapes}
use Rattle.record_json.proofs.escapes.put_pieces.Given as goal

abbrev pub invariant-loop-offset : goal.invariant-loop-offset
invariant-loop-offset l = Escapes l.octets l.rest l.fn.out.items l.out.items

abbrev pub decreases-loop-offset : goal.decreases-loop-offset
decreases-loop-offset l = length l.rest
