use Rattle.syslog_fields.proofs.FirstElements.{id_found, id_missing}
use Rattle.syslog_reading.proofs.first_element.id_len.Goals as goal

pub returns-in-Some-clause-id : goal.returns-in-Some-clause-id
returns-in-Some-clause-id c = id_found c.args.octets.now c.in-Some.offset c.in-Some.ensures

pub returns-in-None-clause-id : goal.returns-in-None-clause-id
returns-in-None-clause-id c = id_missing c.args.octets.now c.in-None.ensures
