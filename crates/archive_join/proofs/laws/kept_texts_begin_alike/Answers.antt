use Rattle.archive_join.proofs.JoinLaws.{begins_alike}
use Rattle.archive_join.proofs.laws.kept_texts_begin_alike.Goals as goal

pub returns : goal.returns
returns g c = begins_alike (g.K.Kept.keeps c.args.kept.now) (g.K.Kept.text c.args.kept.now)
