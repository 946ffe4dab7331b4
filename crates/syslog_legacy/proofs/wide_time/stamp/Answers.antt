use Rattle.std.proofs.Common.{◌∙◌, rules, w16}
use Rattle.std.proofs.lemmas.Int.{to_z-of_z}
use mir.Val.{SFits}
use Rattle.syslog_legacy.proofs.WideReads.{clock_stamp, no_named, no_named_instant, no_own_instant, own_stamp}
use Rattle.syslog_legacy.proofs.wide_time.stamp.Goals as goal

pub returns-in_err-instant : goal.returns-in_err-instant
returns-in_err-instant c =
    let offset = c.in-Some.offset_minutes in
    let fits : SFits w16 offset = search rules in
    rw c.from_residual.ensures (no_own_instant c.args.legacy_clock.now c.args.octets.now c.in-Some.rest.now
    c.in-Some.civil offset _ (to_z-of_z w16 offset fits) c.in-Some.ensures c.in_err-instant.ensures)

pub returns-in-Some : goal.returns-in-Some
returns-in-Some c =
    let offset = c.in-Some.offset_minutes in
    let fits : SFits w16 offset = search rules in
    own_stamp c.args.legacy_clock.now c.args.octets.now c.in-Some.rest.now c.in-Some.civil offset _
    c.in_ok-instant.instant (to_z-of_z w16 offset fits) c.in-Some.ensures c.in_ok-instant.ensures

pub returns-in_err-civil : goal.returns-in_err-civil
returns-in_err-civil c =
    rw c.from_residual-in_err-civil.ensures (no_named c.args.legacy_clock.now c.year.result c.args.octets.now
    c.year.ensures.value c.in_default.ensures c.in_err-civil.ensures)

pub returns-in_err-instant-2 : goal.returns-in_err-instant-2
returns-in_err-instant-2 c =
    let offset = c.offset_minutes.result in
    let fits : SFits w16 offset = search rules in
    rw c.from_residual-in_err-instant-2.ensures (no_named_instant c.args.legacy_clock.now c.year.result
    c.args.octets.now c.in_ok-civil.rest.now c.in_ok-civil.civil _ c.year.ensures.value
    (to_z-of_z w16 offset fits ∙ c.offset_minutes.ensures.value) c.in_default.ensures c.in_ok-civil.ensures
    c.in_err-instant-2.ensures)

pub returns : goal.returns
returns c =
    let offset = c.offset_minutes.result in
    let fits : SFits w16 offset = search rules in
    clock_stamp c.args.legacy_clock.now c.year.result c.args.octets.now c.in_ok-civil.rest.now c.in_ok-civil.civil _
    c.in_ok-instant-2.instant c.year.ensures.value (to_z-of_z w16 offset fits ∙ c.offset_minutes.ensures.value)
    c.in_default.ensures c.in_ok-civil.ensures c.in_ok-instant-2.ensures
