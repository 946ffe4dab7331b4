use Rattle.std.proofs.Common.{◌+◌, ◌≤◌, length}
use Rattle.syslog_fields.specs.Grammar.{Element}
use Rattle.c_library.proofs.Walking.{Walked}
use Rattle.c_library.proofs.walk.count_elements.Given as goal

abbrev pub invariant-loop-first : goal.invariant-loop-first
invariant-loop-first l = Walked Element l.text l.rest l.count × (l.count + length l.rest ≤ length l.text)

abbrev pub decreases-loop-first : goal.decreases-loop-first
decreases-loop-first l = length l.rest
