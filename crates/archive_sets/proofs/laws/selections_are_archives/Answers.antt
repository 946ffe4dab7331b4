use Rattle.archive_sets.proofs.SelectionLaws.{one_selection, selection_archive}
use Rattle.archive_sets.proofs.laws.selections_are_archives.Goals as goal

pub returns-clause-one : goal.returns-clause-one
returns-clause-one g c = one_selection (g.C.Condition.meets c.args.condition.now)

pub returns-clause-archive : goal.returns-clause-archive
returns-clause-archive g c = selection_archive (g.C.Condition.meets c.args.condition.now)
