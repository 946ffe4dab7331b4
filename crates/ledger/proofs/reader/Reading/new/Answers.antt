use Rattle.std.proofs.Common.{refl}
use Rattle.ledger.proofs.ReadingLemmas.{nothing_taken}
use Rattle.ledger.proofs.reader.Reading.new.Goals as goal

pub returns-clause-taken : goal.returns-clause-taken
returns-clause-taken c =
    nothing_taken _ _ _ c.in_ok-with_capacity.ensures.items c.new.ensures c.start.ensures refl refl
