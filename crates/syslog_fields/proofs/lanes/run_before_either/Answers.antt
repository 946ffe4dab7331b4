use Rattle.std.proofs.Common.{ℕ, bit_or}
use Rattle.std.proofs.lemmas.Simd.{zip2_splat, length-chunk}
use lib.Lanes.{chunk}
use Rattle.syslog_fields.proofs.LaneRuns.{combined, either_run}
use Rattle.syslog_fields.proofs.lanes.run_before_either.Goals as goal

pub returns : goal.returns
returns c =
    let v = chunk c.args.at 16 c.args.octets.now in
    let long = length-chunk c.args.at 16 c.args.octets.now c.requires in
    either_run c.args.first c.args.second c.args.octets.now c.args.at _ _ c.requires c.lanes_before.ensures
    (combined bit_or _ _ v (zip2_splat {Y = ℕ} _ v 16 c.args.first long)
    (zip2_splat {Y = ℕ} _ v 16 c.args.second long))
