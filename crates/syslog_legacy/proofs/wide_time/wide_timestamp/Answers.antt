use Rattle.std.proofs.Common.{rules}
use Rattle.syslog_legacy.specs.Parts.{Without}
use Rattle.syslog_legacy.proofs.WideReads.{no_space, no_stamp}
use Rattle.syslog_legacy.proofs.wide_time.wide_timestamp.Goals as goal

pub returns-in_default : goal.returns-in_default
returns-in_default c =
    no_stamp c.args.legacy_clock.now c.args.octets.now c.behind_mark-unmarked.result.now
    c.behind_mark-unmarked.ensures c.in_default.ensures

pub returns-in_err-rest : goal.returns-in_err-rest
returns-in_err-rest c =
    let colon : Without 58 c.in-Some.rest.now c.without-rest.result.now = search rules in
    rw c.from_residual.ensures (no_space c.args.legacy_clock.now c.args.octets.now
    c.behind_mark-unmarked.result.now c.in-Some.rest.now c.without-rest.result.now c.in-Some.instant
    c.behind_mark-unmarked.ensures c.in-Some.ensures colon c.in_err-rest.ensures)
