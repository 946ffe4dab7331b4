-- What a view of octets shows, without where it lies in memory.
use Rattle.syslog_value.specs.Parts.{MessageParts, AnyOctets, Utf8Text}
use Rattle.std.specs.Prelude.{if◌then◌else◌}
use Rattle.syslog_fields.specs.Spans.{ParamSpan, ElementSpan}
use Rattle.syslog_reading.specs.declared.element.ParamView.{ParamView}
use Rattle.syslog_reading.specs.declared.element.ElementView.{ElementView}
use Rattle.syslog_reading.specs.declared.message.MessageView.{MessageView}

abbrev pub param_span : ParamView → ParamSpan
param_span v = record { name = v.name.now; raw = v.raw.now }

abbrev pub element_span : ElementView → ElementSpan
element_span v = record { id = v.id.now; params = v.params.now }

abbrev pub message_parts : MessageView → MessageParts
message_parts m = if m.has_mark then Utf8Text m.octets.now else AnyOctets m.octets.now
