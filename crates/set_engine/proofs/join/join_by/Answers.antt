use Rattle.std.proofs.Common.{Some, ap, map}
use Rattle.set_engine.proofs.Told.{same_join_told}
use Rattle.set_engine.proofs.join.join_by.Goals as goal

pub returns-in-Err : goal.returns-in-Err
returns-in-Err g c = record {
  ending = Some c.in-Err.fault;
  outcome = (c.in-Err.ensures.outcome, c.report_join_fault.ensures);
  failures = same_join_told c.in-Err.fault _ _ _ _ c.in-Err.ensures.told;
  memory = λ is.
      let m = c.in-Err.ensures.memory (cc is) in
      (ap (map g.R.Input.state) m.0, ap g.W.Output.state m.1);
}
