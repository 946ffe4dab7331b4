use Rattle.std.proofs.Common.{◌∙◌, rules}
use Rattle.syslog_reading.proofs.Sorted.{offsets_set}
use Rattle.syslog_reading.proofs.id_keys.set_fronts.Goals as goal

pub loop-i-preserved : goal.loop-i-preserved
loop-i-preserved c = offsets_set c.loop-i.keys c.loop-i.i c.key_of.result _ (search rules)
    (c.key_of.ensures ∙ c.offset_of-offset.ensures.offset) ∙ c.loop-i.invariant
