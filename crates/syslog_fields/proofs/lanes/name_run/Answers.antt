use Rattle.std.proofs.Common.{ℕ, leb, cond, bit_or, refl}
use Rattle.std.proofs.lemmas.Simd.{zip2_splat, splat_is_map, length-chunk}
use lib.Lanes.{chunk}
use Rattle.syslog_value.specs.Parts.{IsNameOctet}
use Rattle.syslog_fields.proofs.LaneRuns.{class_run, combined, ends_name, name_false, name_true}
use Rattle.syslog_fields.proofs.lanes.name_run.Goals as goal

pub returns : goal.returns
returns c =
    let v = chunk c.args.at 16 c.args.octets.now in
    let long = length-chunk c.args.at 16 c.args.octets.now c.requires in
    class_run IsNameOctet ends_name name_false name_true c.args.octets.now c.args.at _ _ c.requires c.type_inv.octets
    c.lanes_before.ensures _
    (combined bit_or _ _ v
    (combined (λ a b. cond (leb a b) 255 0) _ _ v (splat_is_map v 16 94 long) (zip2_splat {Y = ℕ} _ v 16 33 long))
    (combined bit_or _ _ v
    (combined bit_or _ _ v (zip2_splat {Y = ℕ} _ v 16 93 long) (zip2_splat {Y = ℕ} _ v 16 34 long))
    (zip2_splat {Y = ℕ} _ v 16 61 long))) refl
