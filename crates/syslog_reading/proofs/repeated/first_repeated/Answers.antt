use Rattle.std.proofs.Common.{sym, ◌+◌, ap, subst, length, ℕ, List}
use Rattle.octet_language.specs.Language.{Each}
use Rattle.syslog_fields.specs.Grammar.{Element}
use Rattle.syslog_fields.specs.FirstElements.{SplitsElement}
use Rattle.syslog_fields.specs.Spans.{ElementSpan}
use Rattle.syslog_reading.proofs.Repeating.{known_nil, known_end, known_new, known_repeated}
use Rattle.syslog_reading.proofs.repeated.first_repeated.Goals as goal

pub returns-then-first-ne91 : goal.returns-then-first-ne91
returns-then-first-ne91 c = known_nil c.args.structured_data.now c.loop-first.rest.now c.in-Some._after.now
    c.in-Some.first c.in-Some.ensures c.if-first-ne91.true c.loop-first.invariant

pub returns-then-holds_id : goal.returns-then-holds_id
returns-then-holds_id c =
    let v : ElementSpan = record { id = c.id-id.result.now; params = c.first_element.result.0.params.now } in
    let f : SplitsElement c.loop-first.rest.now v c.first_element.result.1.now =
    rw c.id-id.ensures c.first_element.ensures.element in
    known_repeated c.args.structured_data.now c.loop-first.rest.now c.first_element.result.1.now c.in-Some._after.now
    c.in-Some.first v c.holds_id.result _ c.requires c.in-Some.ensures c.if-first-ne91.false f
    (λ es h. c.holds_id.ensures es (subst (Each Element es) (sym c.split_at.ensures.front) h)) c.if-holds_id.true
    (ap (λ (k : List ℕ). length k + 1) c.split_at.ensures.front) c.loop-first.invariant

pub left_behind-rest-requires-clause-known : goal.left_behind-rest-requires-clause-known
left_behind-rest-requires-clause-known c =
    let v : ElementSpan = record { id = c.id-id.result.now; params = c.first_element.result.0.params.now } in
    let f : SplitsElement c.loop-first.rest.now v c.first_element.result.1.now =
    rw c.id-id.ensures c.first_element.ensures.element in
    known_new c.args.structured_data.now c.loop-first.rest.now c.first_element.result.1.now c.in-Some._after.now
    c.in-Some.first v c.holds_id.result c.in-Some.ensures c.if-first-ne91.false f
    (λ es h. c.holds_id.ensures es (subst (Each Element es) (sym c.split_at.ensures.front) h)) c.if-holds_id.false
    c.loop-first.invariant

pub returns : goal.returns
returns c = known_end c.args.structured_data.now c.loop-first.rest.now c.requires c.in_default.ensures
    c.loop-first.invariant
