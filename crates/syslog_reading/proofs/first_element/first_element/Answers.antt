use Rattle.syslog_fields.proofs.FirstElements.{element_split, element_suffix}
use Rattle.syslog_reading.proofs.first_element.first_element.Goals as goal

pub returns-clause-element : goal.returns-clause-element
returns-clause-element c =
    element_split c.args.octets.now c.behind_first-behind.result.now c.split_at.result.0.now c.split_at.result.1.now
    c.split_at-2.result.0.now c.split_at-2.result.1.now c.behind_first.result.now c.id_len.result
    c.marked_len.result
    c.behind_first-behind.ensures c.id_len.ensures.id c.split_at.ensures.front c.split_at.ensures.back
    c.marked_len.ensures.marked c.split_at-2.ensures.front c.split_at-2.ensures.back c.behind_first.ensures

pub returns-clause-suffix : goal.returns-clause-suffix
returns-clause-suffix c =
    element_suffix c.args.octets.now c.behind_first-behind.result.now c.split_at.result.1.now c.split_at-2.result.1.now
    c.behind_first.result.now c.id_len.result c.marked_len.result
    c.behind_first-behind.ensures c.split_at.ensures.back c.split_at-2.ensures.back c.behind_first.ensures
