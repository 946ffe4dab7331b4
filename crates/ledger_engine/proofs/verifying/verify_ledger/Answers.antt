use Rattle.std.proofs.Common.{inr}
use Rattle.ledger_engine.proofs.verifying.verify_ledger.Goals as goal

pub returns-in-Ok-clause-ran : goal.returns-in-Ok-clause-ran
returns-in-Ok-clause-ran g c = inr (c.in-Ok.found, c.in-Ok.ensures.found, c.tell.ensures)
