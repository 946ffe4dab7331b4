use Rattle.syslog_collect.proofs.Spelling.{has_entry_with, has_entry_without}
use Rattle.std.proofs.Common.{sym}
use Rattle.syslog_collect.proofs.connection.has_entry.Goals as goal

pub returns-in-None : goal.returns-in-None
returns-in-None c b view = has_entry_without b _ (sym c.in-None.ensures) view

pub returns-in-Some : goal.returns-in-Some
returns-in-Some c b view = has_entry_with b _ c.in-Some.instant c.civil-civil.result (sym c.in-Some.ensures)
    c.civil-civil.ensures.valid c.civil-civil.ensures.value view
