use Rattle.archive_migration.proofs.Migrated.{one_migration, union_migrated}
use Rattle.archive_migration.proofs.law.migrating_a_union_is_the_union.Goals as goal

pub returns-clause-some : goal.returns-clause-some
returns-clause-some c = union_migrated

pub returns-clause-one : goal.returns-clause-one
returns-clause-one c = one_migration
