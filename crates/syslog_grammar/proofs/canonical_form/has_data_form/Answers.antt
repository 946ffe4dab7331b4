use Rattle.syslog_grammar.proofs.DataForms.{forms_by_id, forms_any}
use Rattle.syslog_grammar.proofs.canonical_form.has_data_form.Goals as goal

pub returns-in-ById : goal.returns-in-ById
returns-in-ById c = rw c.in-ById.is (forms_by_id c.args.is_form c.args.ascends c.both.result c.both.ensures)

pub returns-in-AsGiven : goal.returns-in-AsGiven
returns-in-AsGiven c = rw c.in-AsGiven.is (forms_any c.args.is_form c.args.ascends)
