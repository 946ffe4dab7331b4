use Rattle.std.proofs.lemmas.Bool.{false_from_ne_true}
use Rattle.syslog_grammar.proofs.CanonicalForms.{begins_test, form_data, form_tail, form_time, form_whole}
use Rattle.syslog_reading.proofs.Headers.{time_follows}
use Rattle.syslog_grammar.proofs.canonical_form.has_form.Goals as goal

pub has_time_form-requires : goal.has_time_form-requires
has_time_form-requires c = time_follows c.args.octets.now c.split_at.result.1.now c.args.parsed c.requires.parsed
    c.split_at.ensures.back

pub returns-then-not-has_time_form-clause-none : goal.returns-then-not-has_time_form-clause-none
returns-then-not-has_time_form-clause-none c = λ u.
    form_time c.args.order c.args.octets.now c.split_at.result.1.now c.args.parsed c.requires.parsed
    c.has_time_form.result c.split_at.ensures.back
    (begins_test c.args.parsed c.split_at.result.1.now c.has_time_form.result (time_follows c.args.octets.now
    c.split_at.result.1.now c.args.parsed c.requires.parsed c.split_at.ensures.back) c.has_time_form.ensures)
    c.if-not-has_time_form.true

pub returns-then-not-has_data_form-clause-none : goal.returns-then-not-has_data_form-clause-none
returns-then-not-has_data_form-clause-none c = λ u.
    form_data c.args.order c.args.octets.now c.args.parsed c.requires.parsed c.has_data_form.result
    (c.has_data_form.ensures c.args.parsed.«structured_data».now c.requires.parsed.forms) c.if-not-has_data_form.true

pub returns-clause-form : goal.returns-clause-form
returns-clause-form c = λ u.
    form_whole c.args.order c.args.octets.now c.split_at.result.1.now c.args.parsed c.has_time_form.result
    c.has_data_form.result c.has_message_form.result c.requires.parsed c.requires.time
    c.split_at.ensures.back
    (begins_test c.args.parsed c.split_at.result.1.now c.has_time_form.result (time_follows c.args.octets.now
    c.split_at.result.1.now c.args.parsed c.requires.parsed c.split_at.ensures.back) c.has_time_form.ensures)
    c.if-not-has_time_form.false
    (c.has_data_form.ensures c.args.parsed.«structured_data».now c.requires.parsed.forms)
    c.if-not-has_data_form.false c.has_message_form.ensures u

pub returns-clause-none : goal.returns-clause-none
returns-clause-none c = λ u.
    form_tail c.args.order c.args.octets.now c.args.parsed c.requires.parsed c.has_message_form.result
    c.has_message_form.ensures (false_from_ne_true c.has_message_form.result u)
