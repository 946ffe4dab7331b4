-- All parts of a record and where they lie, as C sees them.
use Rattle.std.specs.Prelude.{◌≡◌, ℕ, zero, suc, ℤ, pos, negsuc, ◌+◌, ◌-◌, ◌*◌, ◌≤◌, List, [], ◌∷◌, ◌++◌, length, decimal, ◌⊎◌}
use Rattle.syslog_value.specs.Parts.{ElementParts, ParamParts, Parts}
use Rattle.syslog_fields.specs.Canonical.{word_form}
use Rattle.syslog_fields.specs.Grammar.{MessagePart, Nilable, StructuredDataText}
use Rattle.syslog_fields.specs.Time.{CivilTime, TimeText}
use Rattle.syslog_fields.specs.Values.{Spells as SpellsValue}
use Rattle.syslog_reading.specs.ViewParts.{IsViewOf, ViewParts, octets_of}
use Rattle.c_library.specs.Faults.{IsNotRead}
use Rattle.c_library.specs.Parts.{Spells}
use Rattle.c_library.specs.declared.fault.SyslogboxFault.{SyslogboxFault}
use Rattle.c_library.specs.declared.part.SyslogboxPartSpan.{SyslogboxPartSpan}

-- ---- spans in the caller's room

-- the part of this number, of so many octets from there on
abbrev pub part_span : ℕ → ℕ → ℕ → SyslogboxPartSpan
part_span part at len = record { part = part; span = record { offset = at; len = len } }

-- the room with the items from an index on, as far as it goes
unfoldable pub placed : {X : Type 0} → ℕ → List X → List X → List X
placed n xs [] = []
placed (suc n) xs (y ∷ room) = y ∷ placed n xs room
placed zero [] (y ∷ room) = y ∷ room
placed zero (x ∷ xs) (y ∷ room) = x ∷ placed zero xs room

-- ---- the parts of a record, in the order of its octets

-- texts, each behind a mark
abbrev pub marked : List (ℕ × List ℕ) → List ℕ
marked [] = []
marked ((mark, text) ∷ fields) = mark ∷ (text ++ marked fields)

-- the spans of such texts, which begin at an offset, from a part on
abbrev pub field_spans : ℕ → ℕ → List (ℕ × List ℕ) → List SyslogboxPartSpan
field_spans part at [] = []
field_spans part at ((mark, text) ∷ fields) =
    part_span part (at + 1) (length text) ∷ field_spans (part + 1) (at + 1 + length text) fields

-- the fields before the structured data, with this text of the timestamp, each behind its mark (RFC 5424, 6)
abbrev pub header_fields : Parts CivilTime → List ℕ → List (ℕ × List ℕ)
header_fields p time =
    (60, decimal p.priority) ∷ (62, 49 ∷ []) ∷ (32, time) ∷ (32, word_form p.hostname) ∷ (32, word_form p.app_name)
    ∷ (32, word_form p.proc_id) ∷ (32, word_form p.msg_id) ∷ []

-- the spans of the name and the value of each parameter in a text that begins at this offset
abbrev pub ShowsParams : ℕ → List ParamParts → List ℕ → List SyslogboxPartSpan → Type 0
ShowsParams at [] text cs = (text ≡ []) × (cs ≡ [])
ShowsParams at (q ∷ ps) text cs =
    (raw : List ℕ) × (behind : List ℕ) × (rest : List SyslogboxPartSpan) × SpellsValue q.value raw
    × (text ≡ 32 ∷ (q.name ++ (61 ∷ 34 ∷ (raw ++ 34 ∷ behind))))
    × (cs ≡ part_span 9 (at + 1) (length q.name) ∷ part_span 10 (at + length q.name + 3) (length raw) ∷ rest)
    × ShowsParams (at + (length q.name + length raw + 4)) ps behind rest

-- the spans of the id of each element and of its parameters in a text that begins with the elements, at this offset
abbrev pub ShowsElements : ℕ → List ElementParts → List ℕ → List SyslogboxPartSpan → Type 0
ShowsElements at [] text cs = cs ≡ []
ShowsElements at (e ∷ es) text cs =
    (params : List ℕ) × (behind : List ℕ) × (inner : List SyslogboxPartSpan) × (rest : List SyslogboxPartSpan)
    × (text ≡ 91 ∷ (e.id ++ (params ++ 93 ∷ behind)))
    × (cs ≡ part_span 8 (at + 1) (length e.id) ∷ (inner ++ rest))
    × ShowsParams (at + length e.id + 1) e.params params inner
    × ShowsElements (at + (length e.id + length params + 2)) es behind rest

-- the octets are the header with some text of the timestamp, then structured data from this offset on and the rest; and
-- these are the spans of the fields before the structured data
abbrev pub IsHeaderShown : List ℕ → ViewParts → ℕ → List SyslogboxPartSpan → Type 0
IsHeaderShown b s at cs =
    (seen : IsViewOf b s) → (time_text : List ℕ) × (end_text : List ℕ) × Nilable TimeText seen.0.time time_text
    × MessagePart seen.0.message end_text
    × (b ≡ marked (header_fields seen.0 time_text) ++ 32 ∷ (s.elements ++ end_text))
    × (at ≡ length (marked (header_fields seen.0 time_text)) + 1)
    × (cs ≡ field_spans 1 0 (header_fields seen.0 time_text))

-- spans are put into the room from an index on, no more than two for each octet, and the index behind them is given
pub record Puts (room : List SyslogboxPartSpan) (index len : ℕ) (cs new : List SyslogboxPartSpan) (result : ℕ) : Type 0 where
  pub room_is : new ≡ placed index cs room
  pub result_is : result ≡ index + length cs
  pub few : length cs ≤ 2 * len

-- the octets spell the parts, and these are the spans of all: the fields before the structured data, its elements, and
-- the message, which is without the BOM
pub record ShowsAll (b : List ℕ) (p : Parts CivilTime) (cs : List SyslogboxPartSpan) : Type 0 where
  pub time_text : List ℕ
  pub data_text : List ℕ
  pub end_text : List ℕ
  pub time_is : Nilable TimeText p.time time_text
  pub data_is : StructuredDataText p.elements data_text
  pub end_is : MessagePart p.message end_text
  pub spelled : b ≡ marked (header_fields p time_text) ++ (32 ∷ (data_text ++ end_text))
  pub elements : List SyslogboxPartSpan
  pub shown : ShowsElements (length (marked (header_fields p time_text)) + 1) p.elements data_text elements
  pub parts : cs ≡ field_spans 1 0 (header_fields p time_text)
      ++ (elements ++ part_span 11 (length b - length (octets_of p.message)) (length (octets_of p.message)) ∷ [])

-- the caller's room and fault
pub record SpanMemory : Type 0 where
  pub room : List SyslogboxPartSpan
  pub fault : SyslogboxFault

-- the octets spell a record that is read: the answer is how many parts it has, and their spans are in the room from its
-- beginning on, as far as it goes
pub record IsShown (b : List ℕ) (old new : SpanMemory) (answer : ℤ) : Type 0 where
  pub record_parts : Parts CivilTime
  pub spells : Spells b record_parts
  pub spans : List SyslogboxPartSpan
  pub shows : ShowsAll b record_parts spans
  pub answer_is : answer ≡ pos (length spans)
  pub room : new.room ≡ placed 0 spans old.room
  pub fault : new.fault ≡ old.fault

-- the octets are no record that is read: the answer is -1, and the room is as it was
pub record IsNotShown (b : List ℕ) (old new : SpanMemory) (answer : ℤ) : Type 0 where
  pub cause : IsNotRead b new.fault
  pub answer_is : answer ≡ negsuc 0
  pub room : new.room ≡ old.room

-- one or the other
abbrev pub ShowsSpans : List ℕ → SpanMemory → SpanMemory → ℤ → Type 0
ShowsSpans b old new answer = IsShown b old new answer ⊎ IsNotShown b old new answer
