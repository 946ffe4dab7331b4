use Rattle.serve_engine.proofs.Told.{few_made, made_note, some_made}
use Rattle.serve_engine.proofs.Words.{counts_note}
use Rattle.serve_engine.proofs.report.Report.tell_counts.Goals as goal

pub returns-clause-told : goal.returns-clause-told
returns-clause-told g c =
    few_made c.put_counts-made.result _ _ _
    (made_note c.put_counts-made.result _ _ _ c.clear.ensures.items
    (counts_note c.args.self.now.counts c.args.with_not_allowed c.args.with_over_rate)
    c.put_counts-made.ensures) c.write_line.ensures.once

pub returns-clause-counts : goal.returns-clause-counts
returns-clause-counts g c =
    some_made c.put_counts-made.result _ _ _ _ _ c.clear.ensures.items c.put_counts-made.ensures
    c.write_line.ensures.once
