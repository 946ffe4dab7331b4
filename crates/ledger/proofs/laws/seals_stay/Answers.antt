use Rattle.ledger.proofs.SealLemmas.{sealed_stay}
use Rattle.ledger.proofs.laws.seals_stay.Goals as goal

pub returns : goal.returns
returns c = sealed_stay
