use Rattle.ledger_engine.proofs.Sealed.{stand}
use Rattle.ledger_engine.proofs.laws.seals_stand.Goals as goal

pub returns : goal.returns
returns c = stand
