use Rattle.std.proofs.Common.{refl}
use Rattle.syslog_reading.specs.IdHashes.{place_of}
use Rattle.syslog_reading.proofs.id_table.place.Goals as goal

pub returns : goal.returns
unfolding place_of
returns c = refl
