use Rattle.std.proofs.Common.{◌≤◌, length}
use Rattle.syslog_grammar.proofs.FirstForms.{KeptValue}
use Rattle.syslog_grammar.proofs.reescaped.behind_kept.Given as goal

abbrev pub invariant-loop-offset : goal.invariant-loop-offset
invariant-loop-offset l = record { kept : KeptValue l.octets l.rest; within : length l.rest ≤ length l.octets }

abbrev pub decreases-loop-offset : goal.decreases-loop-offset
decreases-loop-offset l = length l.rest
