use Rattle.syslog_fields.proofs.MarkedValues.{marked_form, marked_pieces, marked_read}
use Rattle.syslog_fields.proofs.value.text_value.Goals as goal

pub returns-clause-reads : goal.returns-clause-reads
returns-clause-reads c =
    marked_read c.args.octets.now c.in_ok-raw.raw.now c.in_ok-raw.rest.now c.in_ok-raw.ensures.0
    (marked_pieces c.in_ok-raw.raw.now (c.is_text.ensures.0 c.if-not-is_text.false) c.in_ok-raw.ensures.1)

pub returns-clause-form : goal.returns-clause-form
returns-clause-form c =
    marked_form c.in_ok-raw.raw.now c.has_lone.result
    (marked_pieces c.in_ok-raw.raw.now (c.is_text.ensures.0 c.if-not-is_text.false) c.in_ok-raw.ensures.1)
    c.has_lone.ensures.lone c.has_lone.ensures.own
