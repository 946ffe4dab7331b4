use Rattle.std.proofs.Common.{ℕ, ◌/◌, ◌%◌, ◌^◌, ap, arith, eqb, w8, ◌∙◌}
use Rattle.std.proofs.lemmas.Simd.{bitmask_splat, length-chunk}
use lib.Lanes.{chunk}
use Rattle.octet_patterns.proofs.Finding.{set_where}
use Rattle.octet_patterns.proofs.occurrence.places_of.Goals as goal

pub returns : goal.returns
returns c = λ i less is.
    let text = c.args.text.now in
    let v = chunk c.args.from 16 text in
    let long = length-chunk c.args.from 16 text c.requires in
    ap (λ (m : ℕ). m / 2 ^ i % 2) (bitmask_splat w8 eqb v 16 c.args.octet long (omega arith))
    ∙ set_where c.args.octet text c.args.from i c.requires less is
