use Rattle.std.proofs.Common.{None, Some, refl}
use Rattle.store_engine.proofs.read.read_store.Goals as goal

pub returns-in-Ok-clause-ran : goal.returns-in-Ok-clause-ran
returns-in-Ok-clause-ran g c = record {
  ending = None;
  outcome = (record { done = refl; written = c.in-Ok.ensures.outcome; whole = c.in-Ok.ensures.whole }, refl);
  cause = tt;
  writer = c.in-Ok.ensures.writer;
}

pub returns-in-Err-clause-ran : goal.returns-in-Err-clause-ran
returns-in-Err-clause-ran g c = record {
  ending = Some c.in-Err.fault;
  outcome = (c.in-Err.ensures.outcome, c.report_read_fault.ensures);
  cause = c.in-Err.ensures.cause;
  writer = c.in-Err.ensures.writer;
}
