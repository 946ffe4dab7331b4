-- The lines that `show` prints of a record.
use Rattle.std.specs.Prelude.{◌≡◌, ◌+◌, ◌*◌, ℕ, ℤ, List, [], ◌∷◌, ◌++◌, ◌⊎◌, codes, decimal, Bool, ◌&&◌, ◌==◌, ◌/◌, ◌%◌}
use Rattle.std.specs.Prelude.{nat_le, nat_lt, if◌then◌else◌, Option, not}
use Rattle.std.specs.List.{flat_map}
use Rattle.octet_language.specs.Language.{Language, Only, ◌⋅◌}
use Rattle.syslog_value.specs.Facilities.{facility_code, facility_name}
use Rattle.syslog_value.specs.Parts.{ElementParts, MessageParts, AnyOctets, Utf8Text, ParamParts, Parts}
use Rattle.syslog_value.specs.Severities.{severity_code, severity_name}
use Rattle.syslog_value.specs.declared.facility.Facility.{Facility}
use Rattle.syslog_value.specs.declared.severity.Severity.{Severity}
use Rattle.syslog_fields.specs.Canonical.{TimeForm, word_form}
use Rattle.syslog_legacy.specs.declared.frame_reading.FrameReading.{FrameReading}
use Rattle.frame_engine.specs.Converted.{goes_out, noted_line}
use Rattle.frame_engine.specs.Handling.{Handling}
use Rattle.frame_engine.specs.Readings.{IsRecordOf, IsRefusedWith}
use Rattle.frame_engine.specs.declared.line.Line.{Line}

-- a lower-case hexadecimal digit
abbrev pub hex_digit : ℕ → ℕ
hex_digit d = if nat_lt d 10 then 48 + d else 87 + d

-- the printable octets of ASCII, and the space, but for the quotation mark and the backslash
abbrev pub is_unescaped : ℕ → Bool
is_unescaped x = nat_le 32 x && nat_le x 126 && not (x == 34) && not (x == 92)

-- such an octet is shown as itself, every other as `\x` and two hexadecimal digits
abbrev pub hex_escaped_octet : ℕ → List ℕ
hex_escaped_octet x = if is_unescaped x then x ∷ [] else 92 ∷ 120 ∷ hex_digit (x / 16) ∷ hex_digit (x % 16) ∷ []

abbrev pub hex_escaped : List ℕ → List ℕ
hex_escaped octets = flat_map hex_escaped_octet octets

-- a name, a space, a text and a line feed
abbrev pub line_of : List ℕ → List ℕ → List ℕ
line_of name text = name ++ 32 ∷ text ++ 10 ∷ []

-- a name, a space, octets as they are shown between quotation marks, and a line feed
abbrev pub quoted_line : List ℕ → List ℕ → List ℕ
quoted_line name octets = name ++ 32 ∷ 34 ∷ hex_escaped octets ++ 34 ∷ 10 ∷ []

abbrev pub param_lines : ParamParts → List ℕ
param_lines p = quoted_line (codes "param " ++ p.name) p.value

abbrev pub element_lines : ElementParts → List ℕ
element_lines e = line_of (codes "element") e.id ++ flat_map param_lines e.params

unfoldable pub message_line : MessageParts → List ℕ
message_line (AnyOctets octets) = quoted_line (codes "message any") octets
message_line (Utf8Text text) = quoted_line (codes "message utf8") text

-- the line with the number of the record
abbrev pub number_line : ℕ → List ℕ
number_line n = line_of (codes "record") (decimal n)

-- PRIVAL, and the names of a facility and a severity
abbrev pub priority_line : ℕ → Facility → Severity → List ℕ
priority_line v f s = line_of (codes "priority") (decimal v ++ 32 ∷ facility_name f ++ 32 ∷ severity_name s)

-- the names are those of the facility and the severity that PRIVAL is made of
abbrev pub PriorityLine : ℕ → Language
PriorityLine v b = (f : Facility) × (s : Severity) × (v ≡ facility_code f * 8 + severity_code s)
    × (b ≡ priority_line v f s)

-- the canonical timestamp
abbrev pub TimeLine : Option ℤ → Language
TimeLine time b = (t : List ℕ) × TimeForm time t × (b ≡ line_of (codes "time") t)

abbrev pub word_lines : Parts ℤ → List ℕ
word_lines r =
    line_of (codes "host") (word_form r.hostname) ++ line_of (codes "app") (word_form r.app_name)
    ++ line_of (codes "proc") (word_form r.proc_id) ++ line_of (codes "msgid") (word_form r.msg_id)

-- all lines of a record, which has this number
unfoldable pub RecordLines : ℕ → Parts ℤ → Language
RecordLines n r =
    Only (number_line n) ⋅ PriorityLine r.priority ⋅ TimeLine r.time ⋅ Only (word_lines r)
    ⋅ Only (flat_map element_lines r.elements) ⋅ Only (message_line r.message)

-- the lines of the record that a frame is read as, or it is noted why it is none
abbrev pub show_handling : FrameReading → Handling
show_handling way n f d =
    ((r : Parts ℤ) × IsRecordOf way r f × (b : List ℕ) × RecordLines n r b × (d ≡ goes_out b))
    ⊎ ((line : Line) × IsRefusedWith way n f line × (d ≡ noted_line line))
