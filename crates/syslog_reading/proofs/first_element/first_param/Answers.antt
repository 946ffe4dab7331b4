use Rattle.syslog_fields.proofs.FirstElements.{param_split}
use Rattle.syslog_reading.proofs.first_element.first_param.Goals as goal

pub returns-clause-param : goal.returns-clause-param
returns-clause-param c =
    param_split c.args.octets.now c.behind_first-behind.result.now c.split_at.result.0.now c.split_at.result.1.now
    c.behind_first-marked.result.now c.behind_first-value.result.now c.split_at-2.result.0.now
    c.split_at-2.result.1.now c.behind_first.result.now c.name_len.result c.marked_len.result
    c.behind_first-behind.ensures c.name_len.ensures.name c.split_at.ensures.front c.split_at.ensures.back
    c.behind_first-marked.ensures c.behind_first-value.ensures c.marked_len.ensures.marked
    c.split_at-2.ensures.front c.split_at-2.ensures.back c.behind_first.ensures
