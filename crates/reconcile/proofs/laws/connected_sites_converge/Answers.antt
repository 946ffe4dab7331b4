use Rattle.reconcile.proofs.Gossip.{converge}
use Rattle.reconcile.proofs.laws.connected_sites_converge.Goals as goal

pub returns : goal.returns
returns c = converge
