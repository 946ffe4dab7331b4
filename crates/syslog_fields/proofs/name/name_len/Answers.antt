use Rattle.std.proofs.Common.{◌+◌, arith}
use Rattle.syslog_value.specs.Parts.{IsNameOctet}
use Rattle.syslog_fields.proofs.LaneRuns.{run_on}
use Rattle.syslog_fields.proofs.Runs.{prefix_at}
use Rattle.syslog_fields.proofs.name.name_len.Goals as goal

pub returns-then-run-lt-LANES-clause-octets : goal.returns-then-run-lt-LANES-clause-octets
returns-then-run-lt-LANES-clause-octets c =
    run_on IsNameOctet c.loop-at.at c.name_run-run.result c.args.octets.now
    (omega (arith, c.loop-at-test.true, c.name_run-run.ensures.most, c.min-most.ensures)) c.loop-at.invariant.1
    c.name_run-run.ensures.each

pub returns-then-run-lt-LANES-clause-ends : goal.returns-then-run-lt-LANES-clause-ends
returns-then-run-lt-LANES-clause-ends c = λ short.
    prefix_at (λ x. IsNameOctet x → ⊥) (c.loop-at.at + c.name_run-run.result) c.args.octets.now
    (c.name_run-run.ensures.ends c.if-run-lt-LANES.true)

pub loop-at-preserved : goal.loop-at-preserved
loop-at-preserved c = (
  omega (arith, c.loop-at-test.true, c.loop-at.invariant.0, c.name_run-run.ensures.most),
  run_on IsNameOctet c.loop-at.at c.name_run-run.result c.args.octets.now
      (omega (arith, c.loop-at-test.true, c.name_run-run.ensures.most, c.min-most.ensures)) c.loop-at.invariant.1
      c.name_run-run.ensures.each,
)
