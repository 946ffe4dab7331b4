use Rattle.ledger.proofs.LawLemmas.{agreeing_are_equal}
use Rattle.ledger.proofs.laws.agreeing_ledgers_are_equal.Goals as goal

pub returns : goal.returns
returns c = agreeing_are_equal
