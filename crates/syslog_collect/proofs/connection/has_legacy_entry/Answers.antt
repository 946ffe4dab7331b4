use Rattle.std.proofs.Common.{sym, subst}
use Rattle.syslog_value.specs.Instants.{IsOffset}
use Rattle.syslog_legacy.specs.Clocks.{IsYear}
use Rattle.syslog_collect.proofs.Spelling.{legacy_entry_with, legacy_entry_without}
use Rattle.syslog_collect.proofs.connection.has_legacy_entry.Goals as goal

pub returns-in-None : goal.returns-in-None
returns-in-None c b is le =
    legacy_entry_without c.args.clock.now _ b (subst IsYear c.year-year.ensures.value c.year-year.ensures.range)
    (subst IsOffset c.offset_minutes-offset.ensures.value c.offset_minutes-offset.ensures.range)
    (sym c.in-None.ensures) is le

pub returns-in-Some : goal.returns-in-Some
returns-in-Some c b is le =
    legacy_entry_with c.args.clock.now _ b c.in-Some.instant c.civil-civil.result
    (subst IsYear c.year-year.ensures.value c.year-year.ensures.range)
    (subst IsOffset c.offset_minutes-offset.ensures.value c.offset_minutes-offset.ensures.range) (sym c.in-Some.ensures)
    c.civil-civil.ensures.valid c.civil-civil.ensures.value is le
