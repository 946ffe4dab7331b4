use Rattle.std.proofs.Common.{length}
use Rattle.archive_pages.specs.Paged.{entries_in}
use Rattle.durable_store.proofs.Recovered.{JournalReadUpTo}
use Rattle.durable_store.proofs.recovery.add_batches.Given as goal

abbrev pub invariant-batches : goal.invariant-batches
invariant-batches l = JournalReadUpTo (entries_in l.fn.set) (entries_in l.set) l.file l.rest l.has_seals

abbrev pub decreases-batches : goal.decreases-batches
decreases-batches l = length l.rest
