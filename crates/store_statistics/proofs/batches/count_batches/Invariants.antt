use Rattle.std.proofs.Common.{length}
use Rattle.store_statistics.proofs.Journals.{JournalCounted}
use Rattle.store_statistics.proofs.batches.count_batches.Given as goal

abbrev pub invariant-batches : goal.invariant-batches
invariant-batches l = JournalCounted l.tally l.file l.rest

abbrev pub decreases-batches : goal.decreases-batches
decreases-batches l = length l.rest
