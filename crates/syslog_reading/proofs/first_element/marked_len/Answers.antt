use Rattle.std.proofs.Common.{sym, ◌∙◌}
use Rattle.syslog_fields.proofs.FirstElements.{marked_at_once, scanned_none, scanned_more, scanned_end}
use Rattle.syslog_fields.proofs.FirstElements.{scanned_missing}
use Rattle.syslog_reading.proofs.first_element.marked_len.Goals as goal

pub returns-then-begins_with-clause-marked : goal.returns-then-begins_with-clause-marked
returns-then-begins_with-clause-marked c =
    let first = c.begins_with.ensures.mark c.if-begins_with.true in
    marked_at_once c.args.mark c.args.octets.now first.0 c.requires first.1

pub loop-offset-init : goal.loop-offset-init
loop-offset-init c = scanned_none c.args.mark c.args.octets.now

pub returns-then-not-ends_taking-clause-marked : goal.returns-then-not-ends_taking-clause-marked
returns-then-not-ends_taking-clause-marked c =
    scanned_end c.args.mark c.args.octets.now c.loop-offset.rest.now c.split_at.result.1.now
    c.split_at-in-Some.result.0.now c.in-Some.offset c.requires c.loop-offset.invariant c.in-Some.ensures
    c.split_at.ensures.back c.split_at-in-Some.ensures.front (sym c.ends_taking.ensures ∙ c.if-not-ends_taking.true)

pub loop-offset-preserved : goal.loop-offset-preserved
loop-offset-preserved c =
    scanned_more c.args.mark c.args.octets.now c.loop-offset.rest.now c.split_at.result.1.now
    c.split_at-in-Some.result.0.now c.behind_first-rest.result.now c.in-Some.offset c.requires
    c.loop-offset.invariant c.in-Some.ensures c.split_at.ensures.back c.split_at-in-Some.ensures.front
    (sym c.ends_taking.ensures ∙ c.if-not-ends_taking.false) c.behind_first-rest.ensures

pub returns-clause-marked : goal.returns-clause-marked
returns-clause-marked c = scanned_missing c.args.mark c.args.octets.now c.loop-offset.rest.now _ c.in_default.ensures
    c.loop-offset.invariant
