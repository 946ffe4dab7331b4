use Rattle.std.proofs.Common.{arith}
use Rattle.syslog_fields.specs.Values.{IsPlainOctet}
use Rattle.syslog_fields.proofs.LaneRuns.{run_on}
use Rattle.syslog_fields.proofs.value.plain_blocks.Goals as goal

pub returns-then-run-lt-LANES-clause-plain : goal.returns-then-run-lt-LANES-clause-plain
returns-then-run-lt-LANES-clause-plain c =
    run_on IsPlainOctet c.loop-at.at c.plain_run-run.result c.args.octets.now
    (omega (arith, c.loop-at-test.true, c.plain_run-run.ensures.most)) c.loop-at.invariant.1
    c.plain_run-run.ensures.each

pub loop-at-preserved : goal.loop-at-preserved
loop-at-preserved c = (
  omega (arith, c.loop-at-test.true, c.loop-at.invariant.0, c.plain_run-run.ensures.most),
  run_on IsPlainOctet c.loop-at.at c.plain_run-run.result c.args.octets.now
      (omega (arith, c.loop-at-test.true, c.plain_run-run.ensures.most)) c.loop-at.invariant.1
      c.plain_run-run.ensures.each,
)
