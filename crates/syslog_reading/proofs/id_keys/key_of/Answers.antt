use Rattle.std.proofs.Common.{arith}
use Rattle.syslog_reading.specs.IdKeys.{offset_of}
use Rattle.syslog_reading.proofs.id_keys.key_of.Goals as goal

pub returns : goal.returns
unfolding offset_of
returns c = omega (arith, c.requires)
