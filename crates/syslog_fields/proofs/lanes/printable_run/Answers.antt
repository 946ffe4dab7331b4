use Rattle.std.proofs.Common.{ℕ, leb, cond, refl}
use Rattle.std.proofs.lemmas.Simd.{zip2_splat, splat_is_map, length-chunk}
use lib.Lanes.{chunk}
use Rattle.syslog_value.specs.Parts.{IsPrintable}
use Rattle.syslog_fields.proofs.LaneRuns.{class_run, combined, is_other, other_false, other_true}
use Rattle.syslog_fields.proofs.lanes.printable_run.Goals as goal

pub returns : goal.returns
returns c =
    let v = chunk c.args.at 16 c.args.octets.now in
    let long = length-chunk c.args.at 16 c.args.octets.now c.requires in
    class_run IsPrintable is_other other_false other_true c.args.octets.now c.args.at _ _ c.requires c.type_inv.octets
    c.lanes_before.ensures _
    (combined (λ a b. cond (leb a b) 255 0) _ _ v (splat_is_map v 16 94 long) (zip2_splat {Y = ℕ} _ v 16 33 long))
    refl
