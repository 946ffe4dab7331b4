use Rattle.std.proofs.Common.{length}
use Rattle.archive_pages.specs.Paged.{entries_in}
use Rattle.durable_store.proofs.Recovered.{BatchAdded}
use Rattle.durable_store.proofs.recovery.add_batch.Given as goal

abbrev pub invariant-entries : goal.invariant-entries
invariant-entries l = BatchAdded (entries_in l.fn.set) (entries_in l.set) l.body l.rest

abbrev pub decreases-entries : goal.decreases-entries
decreases-entries l = length l.rest
