use Rattle.std.proofs.Common.{length}
use Rattle.store_follow.specs.Batches.{HasEntriesBefore}
use Rattle.store_follow.proofs.batch.behind_entries.Given as goal

abbrev pub invariant-entries : goal.invariant-entries
invariant-entries l = HasEntriesBefore l.body l.rest

abbrev pub decreases-entries : goal.decreases-entries
decreases-entries l = length l.rest
