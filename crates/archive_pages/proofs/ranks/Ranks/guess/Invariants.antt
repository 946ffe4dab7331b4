use Rattle.std.proofs.Common.{◌+◌, ◌≤◌, length}
use Rattle.archive_pages.proofs.ranks.Ranks.guess.Given as goal

abbrev pub invariant-loop-count : goal.invariant-loop-count
invariant-loop-count l = l.first + l.count ≤ length l.self.ranks.items

abbrev pub decreases-loop-count : goal.decreases-loop-count
decreases-loop-count l = l.count
