use Rattle.std.proofs.Common.{◌≡◌, length, arith, rules}
use Rattle.syslog_legacy.proofs.WideReads.{no_point}
use Rattle.syslog_legacy.proofs.wide_time.point.Goals as goal

pub returns-then-is_empty : goal.returns-then-is_empty
returns-then-is_empty c =
    let none : length c.digit_run.result.0.now ≡ 0 = search rules in
    no_point c.args.octets.now c.in_ok-digits.digits.now c.digit_run.result.0.now c.digit_run.result.1.now
    c.in_ok-digits.ensures c.digit_run.ensures (λ some fits. omega (arith, some, none))

pub returns-then-digits-gt6 : goal.returns-then-digits-gt6
returns-then-digits-gt6 c =
    no_point c.args.octets.now c.in_ok-digits.digits.now c.digit_run.result.0.now c.digit_run.result.1.now
    c.in_ok-digits.ensures c.digit_run.ensures (λ some fits. omega (arith, fits))
