use Rattle.std.proofs.Common.{length}
use Rattle.store_reading.specs.Sources.{set_entries}
use Rattle.store_reading.proofs.Batched.{JournalReadUpTo}
use Rattle.store_reading.proofs.journals.add_batches.Given as goal

abbrev pub invariant-batches : goal.invariant-batches
invariant-batches l = JournalReadUpTo (set_entries l.fn.set) (set_entries l.set) l.file l.rest l.has_seals

abbrev pub decreases-batches : goal.decreases-batches
decreases-batches l = length l.rest
