use Rattle.octet_language.specs.Language.{Only}
use Rattle.syslog_grammar.specs.Reescaped.{FirstElement}
use Rattle.syslog_grammar.specs.Sorting.{FirstOf}
use Rattle.syslog_reading.specs.Views.{element_span}
use Rattle.syslog_fields.proofs.Appends.{adds_as, puts_as}
use Rattle.syslog_grammar.proofs.Sorting.{first_cut, first_put}
use Rattle.syslog_grammar.proofs.sorted.put_first.Goals as goal

pub returns-then-is_form : goal.returns-then-is_form
returns-then-is_form c =
    puts_as (Only c.split_at.result.0.now) (FirstOf c.args.is_form c.args.octets.now) c.args.out.now.items
    c.put.new.out.items c.put.result
    (λ b. first_cut c.args.is_form c.args.octets.now c.first_element.result.1.now c.split_at.result.0.now b
    (element_span c.first_element.result.0) c.if-is_form.true c.first_element.ensures.element c.split_at.ensures.front)
    c.put.ensures

pub returns : goal.returns
returns c =
    adds_as (FirstElement c.args.octets.now c.in_ok-put_element.field-0.now)
    (FirstOf c.args.is_form c.args.octets.now) c.args.out.now.items c.put_element.new.out.items
    (λ b. first_put c.args.is_form c.args.octets.now c.in_ok-put_element.field-0.now b) c.in_ok-put_element.ensures.form
