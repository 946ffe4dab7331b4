use Rattle.std.proofs.Common.{length}
use Rattle.store_reading.specs.Sources.{set_entries}
use Rattle.store_reading.proofs.Batched.{BatchAdded}
use Rattle.store_reading.proofs.journals.add_batch.Given as goal

abbrev pub invariant-entries : goal.invariant-entries
invariant-entries l = BatchAdded (set_entries l.fn.set) (set_entries l.set) l.body l.rest

abbrev pub decreases-entries : goal.decreases-entries
decreases-entries l = length l.rest
