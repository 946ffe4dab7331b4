use Rattle.record_json.proofs.DataParts.{element_puts}
use Rattle.record_json.proofs.data.put_element.Goals as goal

pub returns-clause-form : goal.returns-clause-form
returns-clause-form c =
    element_puts c.args.later c.args.octets.now c.behind_first-behind.result.now c.split_at.result.0.now
    c.split_at.result.1.now c.args.out.now.items c.put_key_opening.new.out.items c.put_escaped.new.out.items
    c.put.new.out.items c.put_params.new.out.items c.id_len.result c.put_params.result c.behind_first-behind.ensures
    c.id_len.ensures.id c.split_at.ensures.front c.split_at.ensures.back c.in_ok-put_key_opening.ensures
    c.in_ok-put_escaped.ensures c.in_ok-put.ensures c.put_params.ensures.form
