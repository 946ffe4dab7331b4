use Rattle.store_expiry.proofs.Turning.{turns_all, turns_apart}
use Rattle.store_expiry.proofs.turns.days_first.Goals as goal

pub returns-clause-all : goal.returns-clause-all
returns-clause-all c =
    turns_all c.args.names.now c.in_ok-sorted.sorted.items c.deref.result.now c.in_ok-each.each.items
    c.deref-2.result.now c.new-days.result.items c.new-others.result.items c.sort_out.new.days.items
    c.sort_out.new.others.items c.deref-3.result.now c.put_behind.new.front.items c.deref.ensures.value
    c.deref-2.ensures.value c.deref-3.ensures.value c.new-days.ensures.items c.new-others.ensures.items
    c.in_ok-sorted.ensures.order c.in_ok-sorted.ensures.all c.in_ok-each.ensures c.in_ok-sort_out.ensures
    c.in_ok-put_behind.ensures

pub returns-clause-apart : goal.returns-clause-apart
returns-clause-apart c =
    turns_apart c.args.names.now c.in_ok-sorted.sorted.items c.deref.result.now c.in_ok-each.each.items
    c.deref-2.result.now c.new-days.result.items c.new-others.result.items c.sort_out.new.days.items
    c.sort_out.new.others.items c.deref-3.result.now c.put_behind.new.front.items c.deref.ensures.value
    c.deref-2.ensures.value c.deref-3.ensures.value c.new-days.ensures.items c.new-others.ensures.items
    c.in_ok-sorted.ensures.order c.in_ok-sorted.ensures.all c.in_ok-each.ensures c.in_ok-sort_out.ensures
    c.in_ok-put_behind.ensures
