use Rattle.journal.proofs.Readings.{one_reading}
use Rattle.journal.proofs.law.one_reading.Goals as goal

pub returns : goal.returns
returns c file one other has_one has_other = one_reading file one other has_one has_other
