-- How a message is read (RFC 5424, 6.4).
use Rattle.std.specs.Prelude.{ℕ, List, string_bytes}
use Rattle.syslog_value.specs.Parts.{MessageParts, AnyOctets, Utf8Text}
use Rattle.syslog_value.specs.declared.message.Body.{Body}
use Rattle.syslog_value.specs.declared.message.Body.TheVariants.{Any, Utf8}

-- the octets without the BOM
abbrev pub message_octets : MessageParts → List ℕ
message_octets (AnyOctets octets) = octets
message_octets (Utf8Text text) = text

abbrev pub HasMark : MessageParts → Type 0
HasMark (AnyOctets octets) = ⊥
HasMark (Utf8Text text) = Unit {0}

-- the message that a body represents
abbrev pub message_of : Body → MessageParts
message_of (Any octets) = AnyOctets octets.items
message_of (Utf8 text) = Utf8Text (string_bytes text)
