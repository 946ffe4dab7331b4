use Rattle.ledger.proofs.MeetingLemmas.{goes_by_its_lines}
use Rattle.ledger.proofs.laws.segments_go_by_their_lines.Goals as goal

pub returns : goal.returns
returns c = goes_by_its_lines
