use Rattle.std.proofs.Common.{Some, ap}
use Rattle.set_engine.proofs.Told.{same_told}
use Rattle.set_engine.proofs.digest.digest_archive_with_roots.Goals as goal

pub returns-in-Err : goal.returns-in-Err
returns-in-Err g c = record {
  ending = Some c.in-Err.fault;
  outcome = (c.in-Err.ensures.outcome, c.report_select_fault.ensures);
  failures = same_told c.in-Err.fault _ _ _ _ c.in-Err.ensures.told;
  memory = λ is. let m = c.in-Err.ensures.memory (cc is) in (ap g.R.Input.state m.0, ap g.W.Output.state m.1);
}
