use Rattle.std.proofs.Common.{refl}
use Rattle.syslog_reading.specs.IdKeys.{offset_of}
use Rattle.syslog_reading.proofs.id_keys.offset_of.Goals as goal

pub returns-clause-offset : goal.returns-clause-offset
unfolding offset_of
returns-clause-offset c = refl
