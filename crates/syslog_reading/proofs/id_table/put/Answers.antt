use Rattle.std.proofs.Common.{◌<◌, ℕ, List, length, slice_set, subst, rules}
use Rattle.syslog_reading.specs.IdHashes.{TakesHash}
use Rattle.syslog_reading.proofs.IdTables.{taken}
use Rattle.syslog_reading.proofs.id_table.put.Goals as goal

pub returns-then-slots-i-eq0 : goal.returns-then-slots-i-eq0
returns-then-slots-i-eq0 c = λ u.
    let less : c.loop-i.i < length c.loop-i.slots = search rules in
    subst (λ (s : List ℕ). TakesHash c.args.room c.args.hash s (slice_set c.loop-i.slots c.loop-i.i c.tag-tag.result))
    c.loop-i.invariant.same
    (taken c.args.room c.args.hash c.tag-tag.result c.place-start.result c.loop-i.i _ c.loop-i.slots
    c.place-start.ensures c.tag-tag.ensures.tag less c.if-slots-i-eq0.true c.loop-i.invariant.sought)
