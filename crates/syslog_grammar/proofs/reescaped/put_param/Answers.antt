use Rattle.std.proofs.Common.{◌∙◌, ap, drop}
use Rattle.syslog_grammar.proofs.FirstForms.{param_puts}
use Rattle.syslog_grammar.proofs.reescaped.put_param.Goals as goal

pub returns-clause-form : goal.returns-clause-form
returns-clause-form c = param_puts c.args.octets.now c.behind_first-behind.result.now c.split_at.result.1.now
    c.behind_first-value.result.now c.split_at-2.result.0.now c.args.out.now.items c.put.new.out.items
    c.put_value.new.out.items c.name_len.result c.put_value.result c.behind_first-behind.ensures c.name_len.ensures.name
    c.split_at.ensures.back (c.behind_first-value.ensures ∙ ap (drop 1) c.behind_first.ensures)
    c.split_at-2.ensures.front c.in_ok-put.ensures c.put_value.ensures.form
