use Rattle.std.proofs.Common.{ℕ, leb, cond, bit_or, refl}
use Rattle.std.proofs.lemmas.Simd.{zip2_splat, splat_is_map, length-chunk}
use lib.Lanes.{chunk}
use Rattle.syslog_fields.specs.Values.{IsPlainOctet}
use Rattle.syslog_fields.proofs.LaneRuns.{class_run, combined, ends_plain, plain_false, plain_true, itself}
use Rattle.syslog_fields.proofs.lanes.plain_run.Goals as goal

pub returns : goal.returns
returns c =
    let v = chunk c.args.at 16 c.args.octets.now in
    let long = length-chunk c.args.at 16 c.args.octets.now c.requires in
    class_run IsPlainOctet ends_plain plain_false plain_true c.args.octets.now c.args.at _ _ c.requires
    c.type_inv.octets c.lanes_before.ensures _
    (combined bit_or _ _ v
    (combined (λ a b. cond (leb a b) 255 0) _ _ v (splat_is_map v 16 128 long) (itself v))
    (combined bit_or _ _ v
    (combined bit_or _ _ v (zip2_splat {Y = ℕ} _ v 16 34 long) (zip2_splat {Y = ℕ} _ v 16 92 long))
    (zip2_splat {Y = ℕ} _ v 16 93 long))) refl
