use Rattle.archive_join.proofs.Ends.{stopped_none}
use Rattle.archive_join.proofs.join.join_streams.Goals as goal

pub returns-in_default-clause-outcome : goal.returns-in_default-clause-outcome
returns-in_default-clause-outcome g c =
    stopped_none (g.K.Kept.keeps c.args.kept.now) (g.K.Kept.text c.args.kept.now) _ _
