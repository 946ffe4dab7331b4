use Rattle.syslog_fields.proofs.FirstElements.{name_found, name_missing}
use Rattle.syslog_reading.proofs.first_element.name_len.Goals as goal

pub returns-in-Some-clause-name : goal.returns-in-Some-clause-name
returns-in-Some-clause-name c = name_found c.args.octets.now c.in-Some.offset c.in-Some.ensures

pub returns-in-None-clause-name : goal.returns-in-None-clause-name
returns-in-None-clause-name c = name_missing c.args.octets.now c.in-None.ensures
