use Rattle.std.proofs.Common.{◌≤◌, ◌-◌, length, take}
use Rattle.journal.proofs.Readings.{IsText}
use Rattle.store_backup.proofs.journals.end_of_batches.Given as goal

abbrev pub invariant-loop-len : goal.invariant-loop-len
invariant-loop-len l = record { within : l.end ≤ length l.file; text : IsText (take l.end l.file) }

abbrev pub decreases-loop-len : goal.decreases-loop-len
decreases-loop-len l = length l.file - l.end
