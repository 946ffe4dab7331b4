use Rattle.archive_sets.proofs.SelectionLaws.{begin_alike}
use Rattle.archive_sets.proofs.laws.selections_of_one_text_begin_alike.Goals as goal

pub returns : goal.returns
returns g c = begin_alike (g.C.Condition.meets c.args.condition.now)
