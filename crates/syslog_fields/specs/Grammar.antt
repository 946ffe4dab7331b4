-- The grammar of a syslog record (RFC 5424, section 6): the texts that spell each part.
use Rattle.std.specs.Prelude.{◌≡◌, ◌≢◌, ℕ, ◌≤◌, List, [], ◌∷◌, Option, Some, None, ◌⊎◌, take, decimal}
use Rattle.octet_language.specs.Language.{Language, Only, ◌⋅◌, Each}
use Rattle.syslog_value.specs.Parts.{ParamParts, ElementParts, MessageParts, AnyOctets, Utf8Text, Parts, IsWord, IsName}
use Rattle.syslog_value.specs.Parts.{IsOctets, bom}
use Rattle.syslog_fields.specs.Utf8.{IsText}
use Rattle.syslog_fields.specs.Values.{Spells}
use Rattle.syslog_fields.specs.Time.{CivilTime, TimeText}

-- PRIVAL: 0 to 191, in decimal
abbrev pub Number : ℕ → Language
Number v b = (v ≤ 191) × (b ≡ decimal v)

-- PRI: between angle brackets
abbrev pub Priority : ℕ → Language
Priority v = Only (60 ∷ []) ⋅ Number v ⋅ Only (62 ∷ [])

-- VERSION: of this standard
abbrev pub Version : Language
Version = Only (49 ∷ [])

-- NILVALUE, or a text of the value
abbrev pub Nilable : {V : Type 0} → (V → Language) → Option V → Language
Nilable A None = Only (45 ∷ [])
Nilable A (Some v) = A v

-- a word of one to n octets
abbrev pub Word : ℕ → List ℕ → Language
Word n w b = IsWord n w × (b ≡ w)

-- SD-NAME
abbrev pub Name : List ℕ → Language
Name w b = IsName w × (b ≡ w)

-- a field and the space that follows it
abbrev pub Spaced : Language → Language
Spaced A = A ⋅ Only (32 ∷ [])

-- SP SD-PARAM: a space, then NAME="VALUE"
abbrev pub Param : ParamParts → Language
Param p = Only (32 ∷ []) ⋅ Name p.name ⋅ Only (61 ∷ 34 ∷ []) ⋅ Spells p.value ⋅ Only (34 ∷ [])

-- SD-ELEMENT: [ID PARAM PARAM ..]
abbrev pub Element : ElementParts → Language
Element e = Only (91 ∷ []) ⋅ Name e.id ⋅ Each Param e.params ⋅ Only (93 ∷ [])

-- STRUCTURED-DATA: "-" for no elements, else each element
abbrev pub StructuredDataText : List ElementParts → Language
StructuredDataText [] = Only (45 ∷ [])
StructuredDataText (e ∷ es) = Each Element (e ∷ es)

-- MSG: octets that do not start with the BOM, or the BOM and a text
abbrev pub Message : MessageParts → Language
Message (AnyOctets octets) b = IsOctets octets × (take 3 octets ≢ bom) × (b ≡ octets)
Message (Utf8Text text) b = IsText text × (Only bom ⋅ Only text) b

-- [SP MSG]: nothing for the empty message, or a space and a message
abbrev pub MessagePart : MessageParts → Language
MessagePart m b = ((m ≡ AnyOctets []) × (b ≡ [])) ⊎ (Only (32 ∷ []) ⋅ Message m) b

-- the fields up to the structured data
pub record HeaderParts : Type 0 where
  pub priority : ℕ
  pub time : Option CivilTime
  pub hostname : Option (List ℕ)
  pub app_name : Option (List ℕ)
  pub proc_id : Option (List ℕ)
  pub msg_id : Option (List ℕ)

-- HOSTNAME SP APP-NAME SP PROCID SP MSGID SP
abbrev pub WordFields : Option (List ℕ) → Option (List ℕ) → Option (List ℕ) → Option (List ℕ) → Language
WordFields hostname app_name proc_id msg_id =
    Spaced (Nilable (Word 255) hostname) ⋅ Spaced (Nilable (Word 48) app_name)
    ⋅ Spaced (Nilable (Word 128) proc_id) ⋅ Spaced (Nilable (Word 32) msg_id)

-- HEADER SP
unfoldable pub Header : HeaderParts → Language
Header h =
    Priority h.priority ⋅ Spaced Version ⋅ Spaced (Nilable TimeText h.time)
    ⋅ Spaced (Nilable (Word 255) h.hostname) ⋅ Spaced (Nilable (Word 48) h.app_name)
    ⋅ Spaced (Nilable (Word 128) h.proc_id) ⋅ Spaced (Nilable (Word 32) h.msg_id)

abbrev pub header_of : Parts CivilTime → HeaderParts
header_of p = record {
  priority = p.priority;
  time = p.time;
  hostname = p.hostname;
  app_name = p.app_name;
  proc_id =
      p.proc_id;
  msg_id = p.msg_id;
}

-- SYSLOG-MSG: the texts of a record's parts
abbrev pub SyslogMsg : Parts CivilTime → Language
SyslogMsg p = Header (header_of p) ⋅ StructuredDataText p.elements ⋅ MessagePart p.message
