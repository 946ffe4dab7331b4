use Rattle.store_follow.proofs.Repeated.{committed}
use Rattle.store_follow.proofs.law.each_batch_is_committed.Goals as goal

pub returns : goal.returns
returns c = committed
