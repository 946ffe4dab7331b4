use Rattle.std.proofs.Common.{◌∙◌}
use Rattle.record_store.proofs.Numbered.{not_parsed, not_same, not_utf8}
use Rattle.store_reading.proofs.names.journal_number.Goals as goal

pub returns-in_default-clause-none : goal.returns-in_default-clause-none
returns-in_default-clause-none c journal =
    not_utf8 c.args.name.now c.as_slice.result.now c.in_ok-digits.digits.now c.as_slice.ensures
    c.in_ok-digits.ensures.cases.1 journal c.in_default.ensures.cases.0

pub returns-in_default-parse-clause-none : goal.returns-in_default-parse-clause-none
returns-in_default-parse-clause-none c journal =
    not_parsed c.args.name.now c.as_slice.result.now c.in_ok-digits.digits.now c.as_slice.ensures
    c.in_ok-digits.ensures.cases.1 journal c.in-Ok.text.now c.parse.result c.in_default-parse.field-0
    c.in-Ok.ensures.cases.0 c.parse.ensures.value.0 c.in_default-parse.is

pub returns-then-ne-clause-none : goal.returns-then-ne-clause-none
returns-then-ne-clause-none c journal =
    not_same c.args.name.now c.as_slice.result.now c.in_ok-digits.digits.now c.as_slice.ensures
    c.in_ok-digits.ensures.cases.1 journal c.in-Ok.text.now c.as_bytes.result.now c.parse.result c.in-Ok-parse.number
    c.ne.result c.in-Ok.ensures.cases.0 c.parse.ensures.value.0 c.in-Ok-parse.is
    (c.as_bytes.ensures.value ∙ c.format.ensures.text) c.ne.ensures c.if-ne.true
