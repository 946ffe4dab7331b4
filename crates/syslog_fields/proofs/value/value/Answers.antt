use Rattle.syslog_fields.proofs.MarkedValues.{marked_read, plain_form, plain_pieces}
use Rattle.syslog_fields.proofs.value.value.Goals as goal

pub returns-in-Some : goal.returns-in-Some
returns-in-Some c = record {
  reads = marked_read c.args.octets.now c.in-Some.raw.now c.in-Some.rest.now c.in-Some.ensures.0
      (plain_pieces c.in-Some.raw.now c.in-Some.ensures.1);
  form = plain_form c.in-Some.raw.now c.in-Some.ensures.1;
}
