use Rattle.syslog_grammar.specs.Reescaped.{FirstElement}
use Rattle.syslog_grammar.specs.Sorting.{TextForm}
use Rattle.syslog_fields.proofs.Appends.{adds_as}
use Rattle.syslog_grammar.proofs.Sorting.{text_put}
use Rattle.syslog_grammar.proofs.few_elements.put_text.Goals as goal

pub returns : goal.returns
returns c =
    adds_as (FirstElement c.args.text.now c.in_ok-put_element.field-0.now) (TextForm c.args.is_form c.args.text.now)
    c.args.out.now.items c.put_element.new.out.items
    (λ b. text_put c.args.is_form c.args.text.now c.in_ok-put_element.field-0.now b) c.in_ok-put_element.ensures.form
