use Rattle.std.proofs.Common.{Some}
use Rattle.proof_engine.proofs.Failures.{same_prove_failures}
use Rattle.proof_engine.proofs.prove.prove_archive.Goals as goal

pub returns-in-Err : goal.returns-in-Err
returns-in-Err g c = record {
  ending = Some c.in-Err.fault;
  outcome = (c.in-Err.ensures.outcome, c.report_prove_fault.ensures);
  failures = same_prove_failures c.in-Err.fault _ _ _ _ _ _ c.in-Err.ensures.told;
}
