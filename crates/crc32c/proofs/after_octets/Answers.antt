use Rattle.std.proofs.Common.{◌+◌, drop, sym, ap, ◌∙◌}
use Rattle.crc32c.specs.Castagnoli.{after_octets}
use Rattle.crc32c.proofs.Registers.{octets_done, one_octet_on}
use Rattle.crc32c.proofs.after_octets.Goals as goal

pub loop-octet-preserved : goal.loop-octet-preserved
loop-octet-preserved c =
    ap (λ r. after_octets r (drop (c.loop-octet.octet-index + 1) c.args.octets.now)) c.after_octet-after.ensures
    ∙ sym (one_octet_on c.loop-octet.after c.args.octets.now c.loop-octet.octet-index c.loop-octet-test.true)
    ∙ c.loop-octet.invariant

pub returns : goal.returns
returns c =
    sym (octets_done c.loop-octet.after c.args.octets.now c.loop-octet.octet-index c.loop-octet-test.false) ∙ c.loop-octet.invariant
