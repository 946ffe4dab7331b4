use Rattle.std.proofs.Common.{inl, inr, refl}
use Rattle.commands.proofs.running.write_help.Goals as goal

pub returns-in-Ok : goal.returns-in-Ok
returns-in-Ok g c = inl (rw c.in-Ok.is at c.write_all.ensures, refl, refl)

pub returns-in-Err : goal.returns-in-Err
returns-in-Err g c = inr ((rw c.in-Err.is at c.write_all.ensures).cause, c.report.ensures.reports)
