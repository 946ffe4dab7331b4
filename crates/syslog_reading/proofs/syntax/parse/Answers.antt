use Rattle.std.proofs.Common.{refl}
use Rattle.syslog_reading.specs.Fields.{header_parts}
use Rattle.syslog_reading.proofs.DataTexts.{data_text}
use Rattle.syslog_reading.proofs.Records.{header_fails, data_fails, tail_fails}
use Rattle.syslog_reading.proofs.syntax.parse.Goals as goal

pub returns-in-Err : goal.returns-in-Err
returns-in-Err c = header_fails c.args.octets.now c.in-Err.stop.remaining c.fault_before.result c.in-Err.ensures.reads
    c.fault_before.ensures

pub returns-in-Err-structured_data : goal.returns-in-Err-structured_data
returns-in-Err-structured_data c = data_fails c.args.octets.now c.in-Ok.read.1.now (header_parts c.in-Ok.read.0)
    c.in-Err-structured_data.stop.remaining c.fault_before-in-Err-structured_data.result c.in-Ok.ensures.reads
    c.in-Err-structured_data.ensures.reads c.fault_before-in-Err-structured_data.ensures

pub returns-in-Ok-message_part : goal.returns-in-Ok-message_part
returns-in-Ok-message_part c = record {
  rest = c.in-Ok.read.1.now;
  end = c.in-Ok-structured_data.read.1.now;
  fields = c.in-Ok.ensures.reads;
  time = c.in-Ok.ensures.time;
  behind = c.in-Ok.ensures.behind;
  words = c.in-Ok.ensures.words;
  parts = c.in-Ok-structured_data.ensures.reads.0;
  remaining = refl;
  elements = data_text c.in-Ok.read.1.now c.in-Ok-structured_data.read.0.now c.in-Ok-structured_data.read.1.now
      c.in-Ok-structured_data.ensures.reads;
  forms = c.in-Ok-structured_data.ensures.forms;
  differ = c.in-Ok-structured_data.ensures.ids;
  message_part = c.in-Ok-message_part.ensures;
}

pub returns-in-Err-message_part : goal.returns-in-Err-message_part
returns-in-Err-message_part c = tail_fails c.args.octets.now c.in-Ok.read.1.now c.in-Ok-structured_data.read.1.now
    c.in-Ok-structured_data.read.0.now (header_parts c.in-Ok.read.0) c.in-Err-message_part.stop.remaining
    c.fault_behind.result c.in-Ok.ensures.reads c.in-Ok-structured_data.ensures.reads c.in-Err-message_part.ensures
    c.fault_behind.ensures
