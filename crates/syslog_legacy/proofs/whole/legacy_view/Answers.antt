use Rattle.std.proofs.Common.{ap, arith, length, refl}
use Rattle.std.proofs.lemmas.List.{length-append}
use Rattle.syslog_reading.specs.Views.{message_parts}
use Rattle.syslog_legacy.specs.FrontViews.{front_parts}
use Rattle.syslog_legacy.specs.Readings.{legacy_parts}
use Rattle.syslog_legacy.proofs.Splitting.{message_ends, message_stops}
use Rattle.syslog_legacy.proofs.Valid.{read_valid}
use Rattle.syslog_legacy.proofs.whole.legacy_view.Goals as goal

pub overflow_sub-result : goal.overflow_sub-result
overflow_sub-result c =
    let end = message_ends c.args.clock.now c.args.octets.now (front_parts c.split-front.result.0)
    c.split-front.result.1.now c.split-front.ensures in
    omega (arith, ap length end.1, length-append end.0 c.split-front.result.1.now)

pub returns-in-Err : goal.returns-in-Err
returns-in-Err c =
    message_stops c.args.clock.now c.args.octets.now (front_parts c.split-front.result.0) c.split-front.result.1.now
    c.in-Err.at c.split-front.ensures c.in-Err.ensures

pub invariant_of-result : goal.invariant_of-result
invariant_of-result c =
    let front = front_parts c.split-front.result.0 in
    let message = message_parts c.in-Ok.message in
    let clock = c.args.clock.now in
    record {
      valid = ∣ read_valid clock (legacy_parts front message) c.args.octets.now clock.year_valid clock.offset_valid
          (record {
            front = front;
            octets = c.split-front.result.1.now;
            message = message;
            splits = c.split-front.ensures;
            means = c.in-Ok.ensures;
            is = refl;
          }) ∣₁;
    }
