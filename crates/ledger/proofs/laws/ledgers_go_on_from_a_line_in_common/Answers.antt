use Rattle.ledger.proofs.SayingLemmas.{go_on}
use Rattle.ledger.proofs.laws.ledgers_go_on_from_a_line_in_common.Goals as goal

pub returns : goal.returns
returns c = go_on
