use Rattle.std.proofs.Common.{length}
use Rattle.store_reading.proofs.Tails.{IsTailOf}
use Rattle.store_reading.proofs.journal_file.hidden_at.Given as goal

abbrev pub invariant-batches : goal.invariant-batches
invariant-batches l = IsTailOf l.octets l.rest

abbrev pub decreases-batches : goal.decreases-batches
decreases-batches l = length l.rest
