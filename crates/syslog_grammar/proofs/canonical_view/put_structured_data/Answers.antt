use Rattle.std.proofs.Common.{◌∙◌}
use Rattle.octet_language.specs.Language.{Only}
use Rattle.syslog_grammar.specs.Reescaped.{ElementsOf, StructuredDataOf}
use Rattle.syslog_fields.proofs.Appends.{puts_as}
use Rattle.syslog_grammar.proofs.DataForms.{kept_form, kept_elements}
use Rattle.syslog_grammar.proofs.canonical_view.put_structured_data.Goals as goal

pub returns-then-is_form : goal.returns-then-is_form
returns-then-is_form c =
    let text = c.args.view.now.«structured_data».now in
    puts_as (Only text) (StructuredDataOf text) c.args.out.now.items c.put.new.out.items c.put.result
    (λ s e es d. e ∙ kept_form c.args.view.now.is_form c.args.view.now.ascends text c.args.view.now.forms
    c.if-is_form.true es d) c.put.ensures

pub returns : goal.returns
returns c =
    let text = c.args.view.now.«structured_data».now in
    puts_as (ElementsOf text) (StructuredDataOf text) c.args.out.now.items c.put_elements.new.out.items
    c.put_elements.result
    (kept_elements c.args.view.now.is_form c.args.view.now.ascends text c.args.view.now.forms c.if-is_form.false)
    c.put_elements.ensures
