use Rattle.syslog_grammar.proofs.CanonicalForms.{form_syntax, form_range, in_range}
use Rattle.syslog_grammar.proofs.canonical_form.canonical_structured_data.Goals as goal

pub returns-in_default : goal.returns-in_default
returns-in_default c = form_syntax c.args.order c.args.octets.now c.in_default.field-0 c.in_default.ensures

pub returns-in-Err : goal.returns-in-Err
returns-in-Err c = form_range c.args.order c.args.octets.now c.in-Ok.parsed c.in-Ok.ensures c.in-Err.ensures

pub has_form-requires-clause-time : goal.has_form-requires-clause-time
has_form-requires-clause-time c =
    in_range c.in-Ok.parsed c.in_default-micros_of.field-0 c.in_default-micros_of.ensures
