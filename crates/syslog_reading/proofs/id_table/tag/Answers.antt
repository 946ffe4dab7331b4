use Rattle.std.proofs.Common.{refl}
use Rattle.syslog_reading.specs.IdHashes.{tag_of}
use Rattle.syslog_reading.proofs.id_table.tag.Goals as goal

pub returns-clause-tag : goal.returns-clause-tag
unfolding tag_of
returns-clause-tag c = refl
