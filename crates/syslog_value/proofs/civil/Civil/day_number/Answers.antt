use Rattle.std.proofs.Common.{arith, ◌≡◌, pos, ◌∙◌}
use Rattle.std.proofs.lemmas.Int.{ints}
use Rattle.syslog_value.proofs.DayNumbers.{day_number-same}
use Rattle.syslog_value.specs.Calendar.{day_number}
use Rattle.syslog_value.proofs.civil.Civil.day_number.Goals as goal

pub returns-in-Ok-clause-value : goal.returns-in-Ok-clause-value
returns-in-Ok-clause-value c =
    let year : c.in-Ok.date.year ≡ pos c.args.self.now.year = omega (arith, ints, c.in-Ok.ensures.value) in
    let month : c.in-Ok.date.month ≡ c.args.self.now.month = omega (arith, ints, c.in-Ok.ensures.value) in
    let day : c.in-Ok.date.day ≡ c.args.self.now.day = omega (arith, ints, c.in-Ok.ensures.value) in
    let number : c.to_unix_epoch_day.result ≡ day_number c.args.self.now.year c.args.self.now.month
    c.args.self.now.day = c.to_unix_epoch_day.ensures.value
    ∙ rw (c.to_plain.ensures, year, month, day)
    (day_number-same c.args.self.now.year c.args.self.now.month c.args.self.now.day (omega arith)) in
    omega (arith, ints, number)
