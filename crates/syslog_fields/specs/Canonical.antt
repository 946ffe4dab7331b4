-- The canonical form of a record: of the texts that spell it (RFC 5424, section 6) the one that is written.
use Rattle.std.specs.Prelude.{◌≡◌, ℕ, ℤ, pos, List, [], ◌∷◌, ◌++◌, Option, Some, None, Bool, ◌||◌, ◌==◌, if◌then◌else◌}
use Rattle.std.specs.Prelude.{decimal}
use Rattle.std.specs.List.{flat_map}
use Rattle.octet_language.specs.Language.{Language, Only, ◌⋅◌}
use Rattle.syslog_value.specs.Instants.{IsCivil, instant_of}
use Rattle.syslog_value.specs.Parts.{ParamParts, ElementParts, MessageParts, AnyOctets, Utf8Text, Parts, bom}
use Rattle.syslog_value.specs.declared.civil.Civil.{Civil}
use Rattle.syslog_fields.specs.Time.{padded}

-- ---- the header

-- YYYY-MM-DDThh:mm:ss.uuuuuuZ
unfoldable pub civil_text : Civil → List ℕ
civil_text c =
    padded 4 c.year ++ 45 ∷ padded 2 c.month ++ 45 ∷ padded 2 c.day ++ 84 ∷ padded 2 c.hour ++ 58 ∷ padded 2 c.minute
    ++ 58 ∷ padded 2 c.second ++ 46 ∷ padded 6 c.micros ++ 90 ∷ []

-- NILVALUE, or the civil time in UTC that names the instant
abbrev pub TimeForm : Option ℤ → Language
TimeForm None b = b ≡ 45 ∷ []
TimeForm (Some i) b = (c : Civil) × IsCivil c × (instant_of c (pos 0) ≡ i) × (b ≡ civil_text c)

-- PRI, VERSION and a space
abbrev pub priority_version_form : ℕ → List ℕ
priority_version_form priority = 60 ∷ decimal priority ++ 62 ∷ 49 ∷ 32 ∷ []

-- a word, or NILVALUE
abbrev pub word_form : Option (List ℕ) → List ℕ
word_form None = 45 ∷ []
word_form (Some w) = w

-- ---- the structured data

-- a quotation mark, a backslash or a closing bracket
abbrev pub needs_escape : ℕ → Bool
needs_escape x = x == 34 || x == 92 || x == 93

-- with a backslash before each of these, and before no other octet
abbrev pub escaped : List ℕ → List ℕ
escaped text = flat_map (λ x. if needs_escape x then 92 ∷ x ∷ [] else x ∷ []) text

abbrev pub param_form : ParamParts → List ℕ
param_form p = 32 ∷ p.name ++ 61 ∷ 34 ∷ escaped p.value ++ 34 ∷ []

abbrev pub element_form : ElementParts → List ℕ
element_form e = 91 ∷ e.id ++ flat_map param_form e.params ++ 93 ∷ []

-- "-" for no elements, else each element
abbrev pub structured_data_form : List ElementParts → List ℕ
structured_data_form [] = 45 ∷ []
structured_data_form (e ∷ es) = flat_map element_form (e ∷ es)

-- ---- the message

-- nothing for the empty message without a BOM, else a space and the message
abbrev pub message_form : MessageParts → List ℕ
message_form (AnyOctets []) = []
message_form (AnyOctets (x ∷ octets)) = 32 ∷ x ∷ octets
message_form (Utf8Text text) = 32 ∷ bom ++ text

-- ---- the record

-- a word and the space that follows it
abbrev pub SpacedWord : Option (List ℕ) → Language
SpacedWord w = Only (word_form w) ⋅ Only (32 ∷ [])

-- the header of these fields, and the space that follows it
unfoldable pub HeaderForm : ℕ → Option ℤ → Option (List ℕ) → Option (List ℕ) → Option (List ℕ) → Option (List ℕ)
    → Language
HeaderForm priority time hostname app_name proc_id msg_id =
    Only (priority_version_form priority) ⋅ (TimeForm time ⋅ Only (32 ∷ [])) ⋅ SpacedWord hostname ⋅ SpacedWord app_name
    ⋅ SpacedWord proc_id ⋅ SpacedWord msg_id

-- the canonical text of a record, whose elements are kept by id
abbrev pub Canonical : Parts ℤ → Language
Canonical r =
    HeaderForm r.priority r.time r.hostname r.app_name r.proc_id r.msg_id ⋅ Only (structured_data_form r.elements) ⋅
    Only (message_form r.message)
