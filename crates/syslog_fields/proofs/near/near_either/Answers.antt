use Rattle.std.proofs.Common.{◌+◌, arith}
use Rattle.memchr.specs.Find.{Passes, is_byte2}
use Rattle.syslog_fields.proofs.LaneRuns.{found_at, nowhere_on}
use Rattle.syslog_fields.proofs.near.near_either.Goals as goal

pub returns-then-run-lt-LANES : goal.returns-then-run-lt-LANES
returns-then-run-lt-LANES c =
    found_at c.args.first c.args.second c.args.octets.now c.loop-at.at c.run_before_either-run.result
    (omega (arith, c.loop-at-test.true)) c.if-run-lt-LANES.true c.loop-at.invariant.1 c.run_before_either-run.ensures

pub loop-at-preserved : goal.loop-at-preserved
loop-at-preserved c = (
  omega (arith, c.loop-at-test.true, c.loop-at.invariant.0, c.run_before_either-run.ensures.most),
  nowhere_on (Passes (is_byte2 c.args.first c.args.second) c.args.octets.now) c.loop-at.at
      (c.loop-at.at + c.run_before_either-run.result) c.loop-at.invariant.1 c.run_before_either-run.ensures.each,
)
