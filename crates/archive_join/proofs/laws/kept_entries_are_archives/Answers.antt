use Rattle.archive_join.proofs.JoinLaws.{kept_archive, one_list}
use Rattle.archive_join.proofs.laws.kept_entries_are_archives.Goals as goal

pub returns-clause-one : goal.returns-clause-one
returns-clause-one g c = one_list (g.K.Kept.keeps c.args.kept.now)

pub returns-clause-archive : goal.returns-clause-archive
returns-clause-archive g c = kept_archive (g.K.Kept.keeps c.args.kept.now)
