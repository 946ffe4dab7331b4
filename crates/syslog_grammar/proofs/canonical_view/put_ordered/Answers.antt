use Rattle.syslog_grammar.proofs.DataForms.{kept_unordered}
use Rattle.syslog_grammar.proofs.canonical_view.put_ordered.Goals as goal

pub returns-then-not-ascends-clause-order : goal.returns-then-not-ascends-clause-order
returns-then-not-ascends-clause-order c = λ none es d.
    kept_unordered c.args.view.now.is_form c.args.view.now.ascends c.args.view.now.«structured_data».now
    c.args.view.now.forms c.if-not-ascends.true es d

pub returns-clause-ok : goal.returns-clause-ok
returns-clause-ok c = λ b h u. c.in_ok-put_ascending.ensures.ok b h
