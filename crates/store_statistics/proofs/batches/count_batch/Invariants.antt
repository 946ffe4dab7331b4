use Rattle.std.proofs.Common.{length}
use Rattle.store_statistics.proofs.Journals.{BatchCounted}
use Rattle.store_statistics.proofs.batches.count_batch.Given as goal

abbrev pub invariant-entries : goal.invariant-entries
invariant-entries l = BatchCounted l.fn.tally l.tally l.body l.rest

abbrev pub decreases-entries : goal.decreases-entries
decreases-entries l = length l.rest
