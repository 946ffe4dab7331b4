use Rattle.syslog_grammar.proofs.CanonicalForms.{unsorted_some}
use Rattle.syslog_grammar.proofs.canonical_form.is_canon_unsorted.Goals as goal

pub returns-in-Some : goal.returns-in-Some
returns-in-Some c = unsorted_some c.args.octets.now c.in-Some.structured_data.now c.first_repeated.result
    c.is_none.result c.in-Some.ensures c.first_repeated.ensures c.is_none.ensures
