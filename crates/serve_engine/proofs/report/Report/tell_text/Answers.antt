use Rattle.serve_engine.proofs.Told.{few_made, text_note}
use Rattle.serve_engine.proofs.report.Report.tell_text.Goals as goal

pub returns-clause-told : goal.returns-clause-told
returns-clause-told g c =
    few_made c.extend_from_slice-made.result _ _ _
    (text_note c.extend_from_slice-made.result _ _ _ c.clear.ensures.items c.extend_from_slice-made.ensures.items
    c.requires)
    c.write_line.ensures.once
