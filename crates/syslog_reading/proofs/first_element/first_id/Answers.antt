use Rattle.syslog_reading.proofs.DataTexts.{id_first}
use Rattle.syslog_reading.proofs.first_element.first_id.Goals as goal

pub returns : goal.returns
returns c = id_first c.args.octets.now c.behind_first-behind.result.now c.split_at.result.0.now c.id_len.result
    c.behind_first-behind.ensures c.id_len.ensures.id c.split_at.ensures.front
