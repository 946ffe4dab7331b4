use Rattle.store_follow.proofs.Repeated.{each_once}
use Rattle.store_follow.proofs.law.each_batch_once.Goals as goal

pub returns : goal.returns
returns c = each_once
