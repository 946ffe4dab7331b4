use Rattle.store_reading.proofs.SameSets.{same_octets, same_set}
use Rattle.store_reading.proofs.law.equal_sets_give_equal_octets.Goals as goal

pub returns-clause-set : goal.returns-clause-set
returns-clause-set c files other es fs same h k = same_set files other c.args.range es fs same h k

pub returns-clause-octets : goal.returns-clause-octets
returns-clause-octets c files other one two same h k = same_octets files other c.args.range one two same h k
