use Rattle.std.proofs.Common.{◌≡◌, pos, ◌-ℤ◌, arith}
use Rattle.std.proofs.lemmas.Bool.{false≢true}
use Rattle.std.proofs.lemmas.Int.{ints}
use Rattle.syslog_value.specs.Parts.{IsInstant}
use Rattle.store_reading.proofs.DayOrders.{behind_from, first_from, from_behind}
use Rattle.store_reading.proofs.days.is_from.Goals as goal

pub returns-in-Some-clause-from : goal.returns-in-Some-clause-from
returns-in-Some-clause-from c below =
    let range = c.micros.ensures.range in
    let last : c.in-Some.last ≡ c.args.to -ℤ pos 1 =
    omega (arith, ints, c.in-Some.ensures.value, c.micros.ensures.value, range.0, range.1) in
    behind_from c.args.to c.in-Some.last c.args.day.now c.of.result last c.of.ensures (c.is_before.ensures.0 below)

pub returns-in-Some-clause-all : goal.returns-in-Some-clause-all
returns-in-Some-clause-all c dated from =
    let range = c.micros.ensures.range in
    let last : c.in-Some.last ≡ c.args.to -ℤ pos 1 =
    omega (arith, ints, c.in-Some.ensures.value, c.micros.ensures.value, range.0, range.1) in
    c.is_before.ensures.1
    (from_behind c.args.to c.in-Some.last c.args.day.now c.of.result last c.of.ensures dated from)

pub returns-in-None-clause-from : goal.returns-in-None-clause-from
returns-in-None-clause-from c outside =
    let range = c.micros.ensures.range in
    let valid : IsInstant c.args.to =
    (omega (arith, ints, c.micros.ensures.value, range.0), omega (arith, ints, c.micros.ensures.value, range.1)) in
    let none : ¬ (IsInstant (c.args.to -ℤ pos 1)) =
    λ h. false≢true (c.in-None.ensures.valid.1 (
      omega (arith, ints, c.micros.ensures.value, range.0, range.1, h.0),
      omega (arith, ints, c.micros.ensures.value, range.0, range.1, h.1),
    )) in
    first_from c.args.to c.args.day.now valid none
