use Rattle.std.proofs.Common.{◌≤◌, length}
use Rattle.syslog_fields.proofs.KeptRuns.{Kept}
use Rattle.syslog_fields.proofs.backslash.has_lone.Given as goal

abbrev pub invariant-loop-offset : goal.invariant-loop-offset
invariant-loop-offset l = record { kept : Kept l.raw l.rest; within : length l.rest ≤ length l.raw }

abbrev pub decreases-loop-offset : goal.decreases-loop-offset
decreases-loop-offset l = length l.rest
