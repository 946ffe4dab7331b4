use Rattle.syslog_fields.specs.Stops.{remaining_of}
use Rattle.syslog_fields.specs.Utf8.{tail}
use Rattle.syslog_fields.proofs.Characters.{Passes-last}
use Rattle.syslog_fields.proofs.character.one_behind.Goals as goal

pub returns : goal.returns
returns c = Passes-last remaining_of tail _ c.args.octets.now c.octet.result c.octet.ensures
