use Rattle.std.proofs.Common.{rules, subst, sym}
use Rattle.syslog_reading.specs.Ids.{Skips}
use Rattle.syslog_reading.proofs.Sorted.{known_all, known_sorted}
use Rattle.syslog_reading.proofs.repeated.behind_sorted.Goals as goal

pub returns-in_default : goal.returns-in_default
returns-in_default c = known_all c.args.structured_data.now c.requires

pub returns-then-first-ne91 : goal.returns-then-first-ne91
returns-then-first-ne91 c = known_all c.args.structured_data.now c.requires

pub returns : goal.returns
returns c = known_sorted c.args.structured_data.now c.split_at.result.1.now c.in-Some._after.now c.in-Some.first
    c.offset_of_repeated-at.result c.requires c.in-Some.ensures c.if-first-ne91.false
    (subst (Skips c.args.structured_data.now) (sym c.split_at.ensures.back) c.offset_of_repeated-at.ensures.end.1)
    (search rules) c.offset_of_repeated-at.ensures.differ
