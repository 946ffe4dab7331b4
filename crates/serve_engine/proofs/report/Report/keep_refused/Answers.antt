use Rattle.std.proofs.Common.{◌∙◌, ap}
use Rattle.serve_engine.proofs.Kept.{kept_none, kept_part}
use Rattle.serve_engine.proofs.report.Report.keep_refused.Goals as goal

pub returns-in-Err-clause-kept : goal.returns-in-Err-clause-kept
returns-in-Err-clause-kept g c = kept_none _ _ _ _ _ (ap g.R.Output.state c.drop_one.ensures.refused) c.drop_one.ensures.dropped

pub returns-in-Err-write_all-clause-kept : goal.returns-in-Err-write_all-clause-kept
returns-in-Err-write_all-clause-kept g c = kept_part (g.R.Output.state c.args.self.now.refused)
    (g.R.Output.state c.write_all.new.writer) (g.R.Output.state c.drop_one-in-Err-write_all.new.self.refused) _ _ _
    c.without_lf-line.result.now _ _ _ (ap g.R.Output.state c.drop_one-in-Err-write_all.ensures.refused)
    c.clear.ensures.items (c.as_slice-in-Ok.ensures.value ∙ c.in-Ok.ensures) c.in-Err-write_all.ensures.octets
    c.drop_one-in-Err-write_all.ensures.dropped
