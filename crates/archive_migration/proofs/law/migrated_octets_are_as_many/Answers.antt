use Rattle.archive_migration.proofs.Migrated.{as_many}
use Rattle.archive_migration.proofs.law.migrated_octets_are_as_many.Goals as goal

pub returns : goal.returns
returns c = as_many
