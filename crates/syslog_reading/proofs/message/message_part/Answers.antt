use Rattle.std.proofs.Common.{◌≢◌, ◌<◌, [], ap, length, arith, rules}
use Rattle.std.proofs.lemmas.Result.{MatchResult-weaker}
use Rattle.syslog_reading.specs.Views.{message_parts}
use Rattle.syslog_fields.proofs.Messages.{tail_misses, tail_no_space, spaced_tail}
use Rattle.syslog_reading.proofs.message.message_part.Goals as goal

pub returns-in-Ok : goal.returns-in-Ok
returns-in-Ok c =
    let long : 0 < length c.args.octets.now = search rules in
    let some : c.args.octets.now ≢ [] = λ e. omega (arith, long, ap length e) in
    MatchResult-weaker c.message.result c.message.ensures
    (λ m h. spaced_tail c.args.octets.now c.in-Ok.rest.now (message_parts m) c.in-Ok.ensures h)
    (λ e h. tail_misses c.args.octets.now c.in-Ok.rest.now e.remaining some c.in-Ok.ensures h)

pub returns-in-Err : goal.returns-in-Err
returns-in-Err c =
    let long : 0 < length c.args.octets.now = search rules in
    let some : c.args.octets.now ≢ [] = λ e. omega (arith, long, ap length e) in
    tail_no_space c.args.octets.now c.in-Err.stop.remaining some c.in-Err.ensures
