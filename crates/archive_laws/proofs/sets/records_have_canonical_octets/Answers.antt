use Rattle.archive_laws.proofs.CanonicalOctets.{canonical_octets}
use Rattle.archive_laws.proofs.sets.records_have_canonical_octets.Goals as goal

pub returns : goal.returns
returns c = canonical_octets
