use Rattle.std.proofs.Common.{ℕ, ltb, cond, bit_or, refl}
use Rattle.std.proofs.lemmas.Simd.{zip2_splat, splat_is_map, length-chunk}
use lib.Lanes.{chunk}
use Rattle.syslog_fields.proofs.LaneRuns.{class_run, combined, itself}
use Rattle.record_json.specs.Texts.{IsKept, is_escaped}
use Rattle.record_json.proofs.StopRuns.{kept_false, kept_true}
use Rattle.record_json.proofs.stops.kept_run.Goals as goal

pub returns : goal.returns
returns c =
    let v = chunk c.args.at 16 c.args.octets.now in
    let long = length-chunk c.args.at 16 c.args.octets.now c.requires in
    class_run IsKept is_escaped kept_false kept_true c.args.octets.now c.args.at _ _ c.requires
    c.type_inv.octets c.lanes_before.ensures _
    (combined bit_or _ _ v
    (combined (λ a b. cond (ltb a b) 255 0) _ _ v (itself v) (splat_is_map v 16 32 long))
    (combined bit_or _ _ v (zip2_splat {Y = ℕ} _ v 16 34 long) (zip2_splat {Y = ℕ} _ v 16 92 long))) refl
