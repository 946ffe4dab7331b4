use Rattle.std.proofs.Common.{◌≡◌, ◌+◌, List, length}
use Rattle.c_library.specs.PartSpans.{placed}
use Rattle.c_library.specs.declared.part.SyslogboxPartSpan.{SyslogboxPartSpan}
use Rattle.c_library.proofs.Putting.{PutParams}
use Rattle.c_library.proofs.part_spans.put_params.Given as goal

abbrev pub invariant-loop-first : goal.invariant-loop-first
invariant-loop-first l =
    (done : List SyslogboxPartSpan) × (l.room ≡ placed l.index done l.initial.room) × (l.count ≡ l.index + length done)
    × PutParams l.at l.text l.here l.rest done

abbrev pub decreases-loop-first : goal.decreases-loop-first
decreases-loop-first l = length l.rest
