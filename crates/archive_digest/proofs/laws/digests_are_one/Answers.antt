use Rattle.archive_digest.proofs.DigestLaws.{one_division}
use Rattle.archive_digest.proofs.laws.digests_are_one.Goals as goal

pub returns : goal.returns
returns c = one_division c.args.period
