use Rattle.archive_migration.proofs.Migrated.{new_form_valid, one_new_form}
use Rattle.archive_migration.proofs.OldForms.{new_form_of}
use Rattle.archive_migration.proofs.law.records_have_one_new_form.Goals as goal

pub returns-clause-some : goal.returns-clause-some
returns-clause-some c = new_form_of

pub returns-clause-one : goal.returns-clause-one
returns-clause-one c = one_new_form

pub returns-clause-valid : goal.returns-clause-valid
returns-clause-valid c = new_form_valid
