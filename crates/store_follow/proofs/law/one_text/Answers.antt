use Rattle.store_follow.proofs.Repeated.{one_text}
use Rattle.store_follow.proofs.law.one_text.Goals as goal

pub returns : goal.returns
returns c = one_text
