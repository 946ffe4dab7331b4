use Rattle.std.proofs.Common.{◌≤◌, ◌-◌, length}
use Rattle.archive_proof.proofs.prover.new_paths.Given as goal

abbrev pub invariant-paths : goal.invariant-paths
invariant-paths l = length l.paths.items ≤ l.count

abbrev pub decreases-paths : goal.decreases-paths
decreases-paths l = l.count - length l.paths.items
