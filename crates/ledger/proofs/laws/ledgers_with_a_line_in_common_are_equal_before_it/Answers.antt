use Rattle.ledger.proofs.MeetingLemmas.{meet}
use Rattle.ledger.proofs.laws.ledgers_with_a_line_in_common_are_equal_before_it.Goals as goal

pub returns : goal.returns
returns c = meet
