use Rattle.std.proofs.Common.{inl, inr, refl}
use Rattle.commands.proofs.proving.confirm_file.Goals as goal

pub returns-in_default : goal.returns-in_default
returns-in_default g c = inr (inl (refl, (c.in_default.ensures.found, refl, c.report.ensures.reports)))

pub returns : goal.returns
returns g c = inr (inr (_, _, (c.in-Some.ensures.found, c.in-Some.ensures.unused), c.confirm_proofs.ensures))
