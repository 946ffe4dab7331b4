use Rattle.std.proofs.Common.{length}
use Rattle.archive_migration.proofs.Steps.{SoFar}
use Rattle.archive_migration.proofs.migrating.migrate_into.Given as goal

abbrev pub invariant-loop-rest : goal.invariant-loop-rest
invariant-loop-rest g l = SoFar l.text l.rest l.last (g.S.Store.entries l.fn.store) (g.S.Store.entries l.store)

abbrev pub decreases-loop-rest : goal.decreases-loop-rest
decreases-loop-rest g l = length l.rest
