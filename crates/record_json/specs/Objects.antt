-- A record as an object of JSON (RFC 8259), and the line that it has.
use Rattle.std.specs.Prelude.{◌≡◌, ℕ, ◌+◌, ◌*◌, ℤ, List, [], ◌∷◌, ◌++◌, ◌⊎◌, Option, Some, None, codes, decimal, true, IsUtf8}
use Rattle.json.specs.Json.{Json, null, boolean, number, string, array, object, Items, no_items, item}
use Rattle.json.specs.Json.{Members, no_members, member}
use Rattle.json.specs.Print.{print}
use Rattle.json.specs.Tree.{json_tokens}
use Rattle.base64.specs.Engines.{standard}
use Rattle.base64.specs.GeneralPurpose.{encode_of}
use Rattle.octet_language.specs.Language.{Language}
use Rattle.syslog_value.specs.Facilities.{facility_code, facility_name}
use Rattle.syslog_value.specs.Parts.{ParamParts, ElementParts, MessageParts, AnyOctets, Utf8Text, Parts}
use Rattle.syslog_value.specs.Severities.{severity_code, severity_name}
use Rattle.syslog_value.specs.declared.facility.Facility.{Facility}
use Rattle.syslog_value.specs.declared.severity.Severity.{Severity}
use Rattle.syslog_fields.specs.Canonical.{TimeForm}

-- a word, or null
abbrev pub word_json : Option (List ℕ) → Json
word_json None = null
word_json (Some w) = string w

-- a parameter: its name, and its value without escapes
abbrev pub param_json : ParamParts → Json
param_json p = array (item (string p.name) (item (string p.value) no_items))

-- parameters in their order
abbrev pub params_json : List ParamParts → Items
params_json [] = no_items
params_json (p ∷ ps) = item (param_json p) (params_json ps)

-- elements in their order, each under its id
abbrev pub elements_json : List ElementParts → Members
elements_json [] = no_members
elements_json (e ∷ es) = member e.id (array (params_json e.params)) (elements_json es)

-- the canonical timestamp, or null
abbrev pub IsTimeJson : Option ℤ → Json → Type 0
IsTimeJson None j = j ≡ null
IsTimeJson (Some i) j = (t : List ℕ) × TimeForm (Some i) t × (j ≡ string t)

-- the message: text where it is UTF-8, else the Base64 of its octets (RFC 4648, section 4), and whether it had a BOM
abbrev pub AreMessageJson : MessageParts → Members → Type 0
AreMessageJson (AnyOctets octets) ms =
    (IsUtf8 octets × (ms ≡ member (codes "message") (string octets) no_members))
    ⊎ (¬ (IsUtf8 octets)
    × (ms ≡ member (codes "message_base64") (string (encode_of standard octets)) no_members))
AreMessageJson (Utf8Text text) ms =
    ms ≡ member (codes "message") (string text) (member (codes "bom") (boolean true) no_members)

-- the object of these parts: its keys in their order
abbrev pub object_of : Parts ℤ → Facility → Severity → Json → Members → Json
object_of r f s time message =
    object (member (codes "priority") (number (decimal r.priority))
    (member (codes "facility") (string (facility_name f))
    (member (codes "severity") (string (severity_name s))
    (member (codes "time") time
    (member (codes "host") (word_json r.hostname)
    (member (codes "app") (word_json r.app_name)
    (member (codes "proc") (word_json r.proc_id)
    (member (codes "msgid") (word_json r.msg_id)
    (member (codes "data") (object (elements_json r.elements)) message)))))))))

-- the object of a record
pub record IsJsonOf (r : Parts ℤ) (j : Json) : Type 0 where
  pub facility : Facility
  pub severity : Severity
  pub time : Json
  pub message : Members
  pub priority_is : r.priority ≡ facility_code facility * 8 + severity_code severity
  pub time_is : IsTimeJson r.time time
  pub message_is : AreMessageJson r.message message
  pub object_is : j ≡ object_of r facility severity time message

-- the compact text of the object of a record, and a line feed
unfoldable pub JsonLine : Parts ℤ → Language
JsonLine r b = (j : Json) × IsJsonOf r j × (b ≡ print (json_tokens j) ++ 10 ∷ [])
