use Rattle.std.proofs.Common.{length}
use Rattle.record_json.proofs.Chunks.{Encodes}
use Rattle.record_json.proofs.encoded.put_encoded.Given as goal

abbrev pub invariant-loop-rest : goal.invariant-loop-rest
invariant-loop-rest l = Encodes l.octets l.rest l.fn.out.items l.out.items

abbrev pub decreases-loop-rest : goal.decreases-loop-rest
decreases-loop-rest l = length l.rest
