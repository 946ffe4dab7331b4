use Rattle.store_engine.proofs.Openings.{told_opening}
use Rattle.store_engine.proofs.read.report_opening.Goals as goal

pub returns-in-Missing : goal.returns-in-Missing
returns-in-Missing g c = told_opening c.args.fault _ _ _ _ c.in-Missing.is c.report_on_file.ensures
