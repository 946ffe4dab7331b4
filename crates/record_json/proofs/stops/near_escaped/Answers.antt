use Rattle.std.proofs.Common.{◌+◌, arith}
use Rattle.memchr.specs.Find.{Passes}
use Rattle.syslog_fields.proofs.LaneRuns.{nowhere_on}
use Rattle.record_json.specs.Texts.{is_escaped}
use Rattle.record_json.proofs.StopRuns.{escaped_found}
use Rattle.record_json.proofs.stops.near_escaped.Goals as goal

pub returns-then-run-lt-LANES : goal.returns-then-run-lt-LANES
returns-then-run-lt-LANES c =
    escaped_found c.args.octets.now c.loop-at.at c.kept_run-run.result
    (omega (arith, c.loop-at-test.true)) c.if-run-lt-LANES.true c.loop-at.invariant.1 c.kept_run-run.ensures

pub loop-at-preserved : goal.loop-at-preserved
loop-at-preserved c = (
  omega (arith, c.loop-at-test.true, c.loop-at.invariant.0, c.kept_run-run.ensures.most),
  nowhere_on (Passes is_escaped c.args.octets.now) c.loop-at.at
      (c.loop-at.at + c.kept_run-run.result) c.loop-at.invariant.1 c.kept_run-run.ensures.each,
)
