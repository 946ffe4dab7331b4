use Rattle.syslog_grammar.proofs.FirstForms.{element_puts}
use Rattle.syslog_grammar.proofs.reescaped.put_element.Goals as goal

pub returns-clause-form : goal.returns-clause-form
returns-clause-form c = element_puts c.args.octets.now c.behind_first-behind.result.now c.split_at.result.1.now
    c.split_at-2.result.0.now c.args.out.now.items c.put.new.out.items c.put_params.new.out.items c.id_len.result
    c.put_params.result c.behind_first-behind.ensures c.id_len.ensures.id c.split_at.ensures.back
    c.split_at-2.ensures.front c.in_ok-put.ensures c.put_params.ensures.form
