use Rattle.std.proofs.Common.{inl, inr, arith, rules}
use Rattle.octet_language.specs.Digits.{IsDigit}
use Rattle.syslog_fields.proofs.Runs.{IfFirst-empty, IfFirst-cons}
use Rattle.syslog_fields.proofs.Times.{no_tens, no_units, two_read}
use Rattle.syslog_fields.proofs.timestamp.two.Goals as goal

pub returns-in_default : goal.returns-in_default
returns-in_default c = no_tens c.args.low c.args.high c.args.octets.now c.requires.some c.requires.two_digits
    (IfFirst-empty _ _ c.in_default.ensures)

pub returns-then-tens-low : goal.returns-then-tens-low
returns-then-tens-low c = no_tens c.args.low c.args.high c.args.octets.now c.requires.some c.requires.two_digits
    (IfFirst-cons _ _ _ _ c.in-Some.ensures (inl (omega arith)))

pub returns-then-tens-high : goal.returns-then-tens-high
returns-then-tens-high c = no_tens c.args.low c.args.high c.args.octets.now c.requires.some c.requires.two_digits
    (IfFirst-cons _ _ _ _ c.in-Some.ensures (inr (omega arith)))

pub returns-in_default-next : goal.returns-in_default-next
returns-in_default-next c = no_units c.args.low c.args.high c.args.octets.now c.in-Some.tens c.in-Some.behind.now
    c.requires.some c.requires.two_digits c.in-Some.ensures (omega arith) (omega arith)
    (IfFirst-empty _ _ c.in_default-next.ensures)

pub returns-then-not-is_digit : goal.returns-then-not-is_digit
returns-then-not-is_digit c = no_units c.args.low c.args.high c.args.octets.now c.in-Some.tens c.in-Some.behind.now
    c.requires.some c.requires.two_digits c.in-Some.ensures (omega arith) (omega arith)
    (IfFirst-cons _ _ _ _ c.in-Some-next.ensures (λ d l h. search rules))

pub returns-then-value-low : goal.returns-then-value-low
returns-then-value-low c = no_units c.args.low c.args.high c.args.octets.now c.in-Some.tens c.in-Some.behind.now
    c.requires.some c.requires.two_digits c.in-Some.ensures (omega arith) (omega arith)
    (IfFirst-cons _ _ _ _ c.in-Some-next.ensures (λ d l h. omega arith))

pub returns-then-value-high : goal.returns-then-value-high
returns-then-value-high c = no_units c.args.low c.args.high c.args.octets.now c.in-Some.tens c.in-Some.behind.now
    c.requires.some c.requires.two_digits c.in-Some.ensures (omega arith) (omega arith)
    (IfFirst-cons _ _ _ _ c.in-Some-next.ensures (λ d l h. omega arith))

pub returns : goal.returns
returns c =
    let d : IsDigit c.in-Some-next.units = search rules in
    two_read c.args.low c.args.high c.args.octets.now c.in-Some.tens c.in-Some.behind.now c.in-Some-next.units
    c.in-Some-next.rest.now c.requires.two_digits c.in-Some.ensures c.in-Some-next.ensures (omega arith) d
    (omega arith) (omega arith)
