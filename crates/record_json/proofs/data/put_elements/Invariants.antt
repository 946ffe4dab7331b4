use Rattle.std.proofs.Common.{length}
use Rattle.record_json.proofs.DataParts.{ElementsWritten}
use Rattle.record_json.proofs.data.put_elements.Given as goal

abbrev pub invariant-loop-first : goal.invariant-loop-first
invariant-loop-first l = ElementsWritten l.elements l.rest l.later l.fn.out.items l.out.items

abbrev pub decreases-loop-first : goal.decreases-loop-first
decreases-loop-first l = length l.rest
