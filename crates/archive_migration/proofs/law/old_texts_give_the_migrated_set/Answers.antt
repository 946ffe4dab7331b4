use Rattle.archive_migration.proofs.Migrated.{given_back, no_fault, set_given}
use Rattle.archive_migration.proofs.law.old_texts_give_the_migrated_set.Goals as goal

pub returns-clause-set : goal.returns-clause-set
returns-clause-set c = set_given

pub returns-clause-no_fault : goal.returns-clause-no_fault
returns-clause-no_fault c = no_fault

pub returns-clause-unchanged : goal.returns-clause-unchanged
returns-clause-unchanged c = given_back
