use Rattle.std.proofs.Common.{arith, refl}
use Rattle.std.proofs.lemmas.Int.{ints}
use Rattle.syslog_fields.proofs.Fractions.{zone_minus, zone_plus, zone_utc}
use Rattle.syslog_legacy.proofs.wide_time.zone.Goals as goal

pub returns-in-Some : goal.returns-in-Some
returns-in-Some c = zone_utc c.args.octets.now c.in-Some.rest.now 90 c.in-Some.ensures refl

pub returns-in-Some-behind : goal.returns-in-Some-behind
returns-in-Some-behind c =
    zone_plus c.args.octets.now c.in-Some-behind.rest.now c.in_ok-minutes.rest.now 43 c.in_ok-minutes.minutes _
    c.in-Some-behind.ensures refl (omega (arith, ints, c.in_ok-minutes.ensures.range)) c.in_ok-minutes.ensures.reads

pub returns : goal.returns
returns c =
    zone_minus c.args.octets.now c.in_ok-rest.rest.now c.in_ok-minutes-2.rest.now 45 c.in_ok-minutes-2.minutes _
    c.in_ok-rest.ensures refl (omega (arith, ints, c.in_ok-minutes-2.ensures.range)) c.in_ok-minutes-2.ensures.reads
