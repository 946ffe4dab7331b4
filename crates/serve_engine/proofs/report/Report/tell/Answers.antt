use Rattle.serve_engine.proofs.Told.{made_note}
use Rattle.serve_engine.proofs.Words.{happening_note}
use Rattle.serve_engine.proofs.report.Report.tell.Goals as goal

pub returns-clause-told : goal.returns-clause-told
returns-clause-told g c =
    c.write_paced.ensures.told
    (made_note c.put_happening-made.result _ _ _ c.clear.ensures.items
    (happening_note c.args.way c.args.happening) c.put_happening-made.ensures)
