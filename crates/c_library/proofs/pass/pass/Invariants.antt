use Rattle.std.proofs.Common.{◌+◌, ◌≤◌, length}
use Rattle.c_library.proofs.Passing.{Passed}
use Rattle.c_library.proofs.pass.pass.Given as goal

abbrev pub invariant-frames : goal.invariant-frames
invariant-frames l = Passed l.kind l.piece l.rest l.count × (l.count + length l.rest ≤ length l.piece)

abbrev pub decreases-frames : goal.decreases-frames
decreases-frames l = length l.rest
