use Rattle.std.proofs.Common.{arith}
use Rattle.syslog_value.specs.Parts.{IsPrintable}
use Rattle.syslog_fields.proofs.LaneRuns.{run_on}
use Rattle.syslog_fields.proofs.word.printable_blocks.Goals as goal

pub returns-then-run-lt-LANES-clause-printable : goal.returns-then-run-lt-LANES-clause-printable
returns-then-run-lt-LANES-clause-printable c =
    run_on IsPrintable c.loop-at.at c.printable_run-run.result c.args.octets.now
    (omega (arith, c.loop-at-test.true, c.requires, c.printable_run-run.ensures.most)) c.loop-at.invariant.1
    c.printable_run-run.ensures.each

pub loop-at-preserved : goal.loop-at-preserved
loop-at-preserved c = (
  omega (arith, c.loop-at-test.true, c.loop-at.invariant.0, c.printable_run-run.ensures.most),
  run_on IsPrintable c.loop-at.at c.printable_run-run.result c.args.octets.now
      (omega (arith, c.loop-at-test.true, c.requires, c.printable_run-run.ensures.most)) c.loop-at.invariant.1
      c.printable_run-run.ensures.each,
)
