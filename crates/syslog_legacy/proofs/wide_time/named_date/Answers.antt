use Rattle.std.proofs.Common.{inr, refl}
use Rattle.syslog_legacy.specs.WideTimes.{SpacedYear}
use Rattle.syslog_legacy.proofs.Parts.{lacks}
use Rattle.syslog_legacy.proofs.WideReads.{no_date_here, no_day_behind}
use Rattle.syslog_legacy.proofs.wide_time.named_date.Goals as goal

pub returns-in_err-month : goal.returns-in_err-month
returns-in_err-month c =
    rw c.from_residual.ensures (no_day_behind c.args.clock_year c.in-Some.year c.args.octets.now c.in-Some.rest.now
    c.in-Some.ensures c.in_err-month.ensures)

pub returns-in_err-month-2 : goal.returns-in_err-month-2
returns-in_err-month-2 c =
    rw c.from_residual-in_err-month-2.ensures (no_date_here c.args.clock_year c.args.octets.now c.in_default.ensures
    c.in_err-month-2.ensures)

pub returns-in-None : goal.returns-in-None
returns-in-None c =
    let rest = c.in_ok-month-2.rest.now in
    inr (
      c.in_default.ensures,
      (rest, c.in_ok-month-2.ensures, inr (lacks SpacedYear rest c.in-None.ensures, refl, refl)),
    )
