use Rattle.archive_migration.proofs.Migrated.{migrated_by_id}
use Rattle.archive_migration.proofs.law.sets_by_id_are_migrated_already.Goals as goal

pub returns : goal.returns
returns c = migrated_by_id
