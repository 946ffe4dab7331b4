use Rattle.commands.proofs.running.run_on_files.Goals as goal

pub returns-in-Merge : goal.returns-in-Merge
returns-in-Merge g c = λ input. rw c.in-Merge.is c.merge_files.ensures

pub returns-in-Migrate : goal.returns-in-Migrate
returns-in-Migrate g c = λ input. rw c.in-Migrate.is c.migrate_file.ensures

pub returns-in-Union : goal.returns-in-Union
returns-in-Union g c = λ input. rw c.in-Union.is (rw c.as_slice.ensures.value at c.join_files.ensures)

pub returns-in-Common : goal.returns-in-Common
returns-in-Common g c = λ input. rw c.in-Common.is c.join_files-in-Common.ensures

pub returns-in-Minus : goal.returns-in-Minus
returns-in-Minus g c = λ input. rw c.in-Minus.is c.join_files-in-Minus.ensures

pub returns-in-Diff : goal.returns-in-Diff
returns-in-Diff g c = λ input. rw c.in-Diff.is c.join_files-in-Diff.ensures
