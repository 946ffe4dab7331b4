use Rattle.reconcile.proofs.Gossip.{has_at_last}
use Rattle.reconcile.proofs.laws.records_follow_the_pairs.Goals as goal

pub returns : goal.returns
returns c = has_at_last
