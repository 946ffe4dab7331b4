-- The text of the object of a record, part by part.
use Rattle.std.specs.Prelude.{◌≡◌, ℕ, ◌+◌, ◌*◌, ℤ, List, [], ◌∷◌, ◌++◌, ◌⊎◌, Option, Some, None, Bool, ◌||◌, ◌==◌, true, false}
use Rattle.std.specs.Prelude.{codes, decimal, if◌then◌else◌, option_map, IsUtf8, nat_lt}
use Rattle.json.specs.Print.{escape, quoted}
use Rattle.base64.specs.Engines.{standard}
use Rattle.base64.specs.GeneralPurpose.{encode_of}
use Rattle.octet_language.specs.Language.{Language, Only, ◌⋅◌, Each}
use Rattle.syslog_value.specs.Facilities.{facility_code, facility_name}
use Rattle.syslog_value.specs.Parts.{ParamParts, ElementParts, MessageParts, AnyOctets, Utf8Text, Parts}
use Rattle.syslog_value.specs.Severities.{severity_code, severity_name}
use Rattle.syslog_value.specs.declared.facility.Facility.{Facility}
use Rattle.syslog_value.specs.declared.severity.Severity.{Severity}
use Rattle.syslog_fields.specs.Appending.{Adds}
use Rattle.syslog_fields.specs.Canonical.{TimeForm}
use Rattle.syslog_fields.specs.Grammar.{Param, Element, StructuredDataText}
use Rattle.syslog_fields.specs.Spans.{ParamSpan}
use Rattle.syslog_fields.specs.Values.{Spells}
use Rattle.syslog_reading.specs.ShownParts.{ViewParts}
use Rattle.syslog_reading.specs.Views.{message_parts}
use Rattle.syslog_reading.specs.WellFormed.{WellFormed}
use Rattle.syslog_grammar.specs.Reescaped.{FirstForm}
use Rattle.record_json.specs.Objects.{JsonLine}
use Rattle.record_json.specs.declared.line.LentParts.{LentParts}

-- ---- strings

-- a string has these by an escape: quotation marks, backslashes and the octets below 32
abbrev pub is_escaped : ℕ → Bool
is_escaped x = nat_lt x 32 || x == 34 || x == 92

-- and every other octet as it is
abbrev pub IsKept : ℕ → Type 0
IsKept x = ¬ (is_escaped x ≡ true)

-- what a string has of the value that is spelled so
abbrev pub ValueOf : List ℕ → Language
ValueOf raw b = (text : List ℕ) → Spells text raw → b ≡ escape text

-- ---- structured data

-- a comma, where something stands before
abbrev pub comma_if : Bool → List ℕ
comma_if later = if later then 44 ∷ [] else []

-- a comma, a name, and a value that is escaped already
abbrev pub pair_text : Bool → List ℕ → List ℕ → List ℕ
pair_text later name value = comma_if later ++ 91 ∷ quoted name ++ 44 ∷ 34 ∷ value ++ 34 ∷ 93 ∷ []

abbrev pub param_text : Bool → ParamParts → List ℕ
param_text later p = pair_text later p.name (escape p.value)

-- parameters and the bracket that ends them
abbrev pub params_text : Bool → List ParamParts → List ℕ
params_text later [] = 93 ∷ []
params_text later (p ∷ ps) = param_text later p ++ params_text true ps

abbrev pub element_text : Bool → ElementParts → List ℕ
element_text later e = comma_if later ++ quoted e.id ++ 58 ∷ 91 ∷ params_text false e.params

-- elements and the brace that ends them
abbrev pub elements_text : Bool → List ElementParts → List ℕ
elements_text later [] = 125 ∷ []
elements_text later (e ∷ es) = element_text later e ++ elements_text true es

-- of the parameter that is spelled so
abbrev pub ParamOf : Bool → ParamSpan → Language
ParamOf later v b = (value : List ℕ) → Spells value v.raw → b ≡ pair_text later v.name (escape value)

-- of the parameters that come first and the bracket that ends them, and the rest follows
abbrev pub FirstParams : List ℕ → List ℕ → Language
FirstParams octets rest = FirstForm (λ ps. Each Param ps ⋅ Only (93 ∷ [])) (λ ps. params_text false ps) octets rest

-- of the element that comes first, and the rest follows
abbrev pub FirstElement : Bool → List ℕ → List ℕ → Language
FirstElement later octets rest = FirstForm Element (element_text later) octets rest

-- of the elements of a text
abbrev pub ElementsOf : List ℕ → Language
ElementsOf text b = (es : List ElementParts) → Each Element es text → b ≡ elements_text false es

-- of the structured data of a text
abbrev pub DataOf : List ℕ → Language
DataOf text b = (es : List ElementParts) → StructuredDataText es text → b ≡ elements_text false es

-- ---- the other fields

-- a comma, a key and a colon
abbrev pub key_text : List ℕ → List ℕ
key_text key = 44 ∷ 34 ∷ key ++ 34 ∷ 58 ∷ []

-- the number of the priority behind its key
abbrev pub number_text : ℕ → List ℕ
number_text v = 123 ∷ 34 ∷ codes "priority" ++ 34 ∷ 58 ∷ decimal v

abbrev pub priority_text : ℕ → Facility → Severity → List ℕ
priority_text v f s =
    number_text v ++ (key_text (codes "facility") ++ quoted (facility_name f))
    ++ (key_text (codes "severity") ++ quoted (severity_name s))

-- the names are those of the facility and the severity that PRIVAL is made of
abbrev pub PriorityText : ℕ → Language
PriorityText v b = (f : Facility) × (s : Severity) × (v ≡ facility_code f * 8 + severity_code s)
    × (b ≡ priority_text v f s)

abbrev pub TimeText : Option ℤ → Language
TimeText None b = b ≡ key_text (codes "time") ++ codes "null"
TimeText (Some i) b = (t : List ℕ) × TimeForm (Some i) t × (b ≡ key_text (codes "time") ++ quoted t)

abbrev pub word_text : Option (List ℕ) → List ℕ
word_text None = codes "null"
word_text (Some w) = quoted w

abbrev pub words_text : Option (List ℕ) → Option (List ℕ) → Option (List ℕ) → Option (List ℕ) → List ℕ
words_text hostname app_name proc_id msg_id =
    (key_text (codes "host") ++ word_text hostname) ++ (key_text (codes "app") ++ word_text app_name)
    ++ (key_text (codes "proc") ++ word_text proc_id) ++ (key_text (codes "msgid") ++ word_text msg_id)

-- the data with its key and its braces
abbrev pub DataMember : List ℕ → Language
DataMember text b = (es : List ElementParts) → StructuredDataText es text
    → b ≡ key_text (codes "data") ++ 123 ∷ elements_text false es

-- a message after a BOM, the brace that ends the object, and a line feed
abbrev pub marked_text : List ℕ → List ℕ
marked_text text =
    key_text (codes "message") ++ quoted text ++ (key_text (codes "bom") ++ codes "true" ++ 125 ∷ 10 ∷ [])

-- a message in UTF-8, the brace and the line feed
abbrev pub plain_text : List ℕ → List ℕ
plain_text octets = key_text (codes "message") ++ quoted octets ++ 125 ∷ 10 ∷ []

-- any other message, the brace and the line feed
abbrev pub base64_text : List ℕ → List ℕ
base64_text octets =
    (key_text (codes "message_base64") ++ 34 ∷ []) ++ escape (encode_of standard octets) ++ 34 ∷ 125 ∷ 10 ∷ []

abbrev pub MessageText : MessageParts → Language
MessageText (AnyOctets octets) b =
    (IsUtf8 octets × (b ≡ plain_text octets)) ⊎ (¬ (IsUtf8 octets) × (b ≡ base64_text octets))
MessageText (Utf8Text text) b = b ≡ marked_text text

-- ---- records

-- the record of lent parts with these elements
abbrev pub record_of : LentParts → List ElementParts → Parts ℤ
record_of p es = record {
  priority = p.header.priority;
  time = p.header.instant;
  hostname = option_map (λ s. s.now) p.header.hostname;
  app_name = option_map (λ s. s.now) p.header.app_name;
  proc_id = option_map (λ s. s.now) p.header.proc_id;
  msg_id = option_map (λ s. s.now) p.header.msg_id;
  elements = es;
  message = message_parts p.message;
}

-- the line of the record of lent parts, with its elements as they stand
abbrev pub LentLine : LentParts → Language
LentLine p b = (es : List ElementParts) → StructuredDataText es p.«structured_data».now → JsonLine (record_of p es) b

-- the record that is shown with these elements
abbrev pub shown_record : ViewParts → List ElementParts → Parts ℤ
shown_record s es = record {
  priority = s.priority;
  time = s.instant;
  hostname = s.hostname;
  app_name = s.app_name;
  proc_id = s.proc_id;
  msg_id = s.msg_id;
  elements = es;
  message = s.message;
}

-- the line of the record that is shown, with its elements as they stand
abbrev pub ShownLine : ViewParts → Language
ShownLine s b = (es : List ElementParts) → StructuredDataText es s.elements → JsonLine (shown_record s es) b

-- the line of the record that the octets are follows the old octets
abbrev pub AddsLine : List ℕ → List ℕ → List ℕ → Type 0
AddsLine b old new = (r : Parts ℤ) × WellFormed r b × Adds (JsonLine r) old new
