use Rattle.std.proofs.Common.{ℕ, ap, subst, ◌∙◌}
use Rattle.syslog_reading.specs.IdHashes.{TakesHash, hash_of}
use Rattle.syslog_reading.specs.Views.{element_span}
use Rattle.syslog_reading.proofs.IdTables.{held_none, held_more}
use Rattle.syslog_reading.proofs.id_table.behind_new.Goals as goal

pub loop-first-init : goal.loop-first-init
loop-first-init c = held_none c.args.multiplier c.args.room c.args.slots.now c.args.structured_data.now c.requires.data

pub loop-first-preserved : goal.loop-first-preserved
loop-first-preserved c = held_more c.args.multiplier c.args.room c.loop-first.slots c.put.new.slots
    c.args.structured_data.now
    c.loop-first.rest.now c.first_element.result.1.now c.in-Some._after.now c.in-Some.first
    (element_span c.first_element.result.0) c.in-Some.ensures c.if-first-ne91.false c.first_element.ensures.element
    (subst (λ (h : ℕ). TakesHash c.args.room h c.loop-first.slots c.put.new.slots)
    (c.id_hash.ensures ∙ ap (hash_of c.args.multiplier) c.id.ensures)
    (c.put.ensures c.if-not-put.false)) c.loop-first.invariant
