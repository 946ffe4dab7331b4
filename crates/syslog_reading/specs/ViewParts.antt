-- What a view of a record shows.
use Rattle.std.specs.Prelude.{ℕ, List, option_map, ⊤}
use Rattle.syslog_value.specs.Parts.{MessageParts, AnyOctets, Utf8Text}
pub use Rattle.syslog_reading.specs.ShownParts.{ViewParts, BehindTime, HasParts, IsViewOf}
use Rattle.syslog_reading.specs.Views.{message_parts}
use Rattle.syslog_reading.specs.declared.record_view.RecordView.{RecordView}

-- what a view shows
abbrev pub view_parts : RecordView → ViewParts
view_parts v = record {
  priority = v.priority;
  instant = v.micros;
  hostname = option_map (λ s. s.now) v.hostname;
  app_name = option_map (λ s. s.now) v.app_name;
  proc_id = option_map (λ s. s.now) v.proc_id;
  msg_id = option_map (λ s. s.now) v.msg_id;
  elements = v.structured_data.now;
  message = message_parts (record { octets = v.message; has_mark = v.has_mark });
  behind_time = v.behind_time.now;
}

-- the octets of a message, without the BOM
abbrev pub octets_of : MessageParts → List ℕ
octets_of (AnyOctets octets) = octets
octets_of (Utf8Text text) = text

-- the message starts with the BOM
abbrev pub HasBom : MessageParts → Type 0
HasBom (AnyOctets octets) = ⊥
HasBom (Utf8Text text) = ⊤
