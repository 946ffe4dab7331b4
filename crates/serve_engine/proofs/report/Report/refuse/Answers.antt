use Rattle.serve_engine.proofs.Told.{made_note, of_before}
use Rattle.serve_engine.proofs.Kept.{kept_behind}
use Rattle.serve_engine.proofs.Words.{refused_note}
use Rattle.serve_engine.proofs.report.Report.refuse.Goals as goal

pub returns-clause-told : goal.returns-clause-told
returns-clause-told g c =
    of_before _ 1 _ _ _ (c.write_paced.ensures.told
    (made_note c.put_refused-made.result _ _ _ c.clear.ensures.items
    (refused_note c.args.way c.args.number c.args.outcome c.requires)
    c.put_refused-made.ensures)) c.keep_refused.ensures.told

pub returns-clause-kept : goal.returns-clause-kept
returns-clause-kept g c =
    kept_behind (g.R.Output.state) _ _ (g.R.Output.state c.keep_refused.new.self.refused) _ _ _ _
    c.write_paced.ensures.refused c.write_paced.ensures.dropped c.keep_refused.ensures.kept
