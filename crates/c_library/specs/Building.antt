-- A record of its fields.
use Rattle.std.specs.Prelude.{◌≡◌, ◌≢◌, ℕ, ℤ, ◌+◌, ◌-◌, ◌*◌, ◌<◌, ◌≤◌, List, [], ◌⊎◌, length, take}
use Rattle.std.specs.Prelude.{Option, Some, None}
use Rattle.std.specs.List.Sorted.{IsPermutation}
use Rattle.octet_language.specs.Language.{IsFaultOffset, Language}
use Rattle.syslog_value.specs.Parts.{AnyOctets, ElementParts, IsInstant, IsRecord, IsWord, MessageParts, Parts}
use Rattle.syslog_value.specs.Parts.{Utf8Text, bom}
use Rattle.syslog_value.specs.Structured.{HaveDistinctIds}
use Rattle.syslog_value.specs.Words.{IsWordFault}
use Rattle.syslog_value.specs.declared.word.WordFault.{WordFault}
use Rattle.syslog_value.specs.declared.word.WordFault.TheVariants.{Empty, Nil, TooLong, BadOctet, Memory}
use Rattle.syslog_fields.specs.Canonical.{Canonical}
use Rattle.syslog_fields.specs.Utf8.{IsText}
use Rattle.c_library.specs.DataItems.{IsItemsBad, TakesElements, pairs}
use Rattle.c_library.specs.Faults.{IsTooLong, IsWithin, Tells, field_fault, item_fault, memory_fault, plain_fault}
use Rattle.c_library.specs.Faults.{utf8_fault}
use Rattle.c_library.specs.declared.fields.SyslogboxFields.{SyslogboxFields}
use Rattle.c_library.specs.declared.fault.SyslogboxFault.{SyslogboxFault}
use Rattle.c_library.specs.declared.items.SyslogboxItem.{SyslogboxItem}

-- ---- each field, and why it is refused

abbrev pub IsPriorityOf : ℕ → ℕ → ℕ → Type 0
IsPriorityOf facility severity priority =
    (facility < 24) × (severity < 8) × (priority ≡ facility * 8 + severity)

-- there is an instant if the mark of it is not 0
abbrev pub IsTimeOf : ℕ → ℤ → Option ℤ → Type 0
IsTimeOf has time None = has ≡ 0
IsTimeOf has time (Some instant) = (has ≢ 0) × (instant ≡ time)

abbrev pub IsTimeRefused : ℕ → ℤ → SyslogboxFault → Type 0
IsTimeRefused has time told = (has ≢ 0) × ¬ (IsInstant time) × (told ≡ plain_fault 2 0)

-- a word, or none where there are no octets
abbrev pub IsWordOf : ℕ → List ℕ → Option (List ℕ) → Type 0
IsWordOf most octets None = octets ≡ []
IsWordOf most octets (Some word) = (word ≡ octets) × IsWord most octets

-- the offset of the first octet that a word may not have: how many it may have if there are more, and 0 of "-"
abbrev pub word_offset : ℕ → WordFault → ℕ
word_offset most Empty = 0
word_offset most Nil = 0
word_offset most TooLong = most
word_offset most (BadOctet offset) = offset
word_offset most Memory = 0

-- there are octets, and they are no word
abbrev pub IsBadWord : ℕ → List ℕ → WordFault → Type 0
IsBadWord most octets Empty = ⊥
IsBadWord most octets Nil = IsWordFault most octets Nil
IsBadWord most octets TooLong = IsWordFault most octets TooLong
IsBadWord most octets (BadOctet offset) = IsWordFault most octets (BadOctet offset)
IsBadWord most octets Memory = ⊥

abbrev pub IsWordRefused : ℕ → ℕ → List ℕ → SyslogboxFault → Type 0
IsWordRefused most field octets told =
    (told ≡ memory_fault)
    ⊎ Tells (λ fault. field_fault field (word_offset most fault)) (IsBadWord most octets) told

-- the elements of the items, in the order of their ids
abbrev pub IsDataOf : List SyslogboxItem → List ElementParts → Type 0
IsDataOf items kept =
    (es : List ElementParts) × TakesElements (pairs items) es × HaveDistinctIds es × IsPermutation es kept

-- an item is refused; or an id is that of two elements
abbrev pub IsDataRefused : List SyslogboxItem → SyslogboxFault → Type 0
IsDataRefused items told =
    (told ≡ memory_fault)
    ⊎ (((left : ℕ) × (left ≤ length items) × IsItemsBad (pairs items) left × (told ≡ item_fault (length items - left)))
    ⊎ ((es : List ElementParts) × TakesElements (pairs items) es × ¬ (HaveDistinctIds es) × (told ≡ plain_fault 3 0)))

-- a text behind the BOM, or any octets
abbrev pub IsMessageOf : ℕ → List ℕ → MessageParts → Type 0
IsMessageOf has octets (AnyOctets any) = (has ≡ 0) × (any ≡ octets)
IsMessageOf has octets (Utf8Text text) = (has ≢ 0) × (text ≡ octets)

-- any octets start with the BOM; or the text is no UTF-8
abbrev pub IsMessageRefused : ℕ → List ℕ → SyslogboxFault → Type 0
IsMessageRefused has octets told =
    (told ≡ memory_fault)
    ⊎ (((has ≡ 0) × (take 3 octets ≡ bom) × (told ≡ field_fault 9 0))
    ⊎ ((has ≢ 0) × Tells utf8_fault (λ at. ¬ (IsText octets) × IsFaultOffset IsText octets at) told))

-- ---- the record

-- the record has these fields
pub record IsRecordOf (f : SyslogboxFields) (r : Parts ℤ) : Type 0 where
  pub priority : IsPriorityOf f.facility f.severity r.priority
  pub time : IsTimeOf f.has_time f.time r.time
  pub hostname : IsWordOf 255 f.hostname.now r.hostname
  pub app_name : IsWordOf 48 f.app_name.now r.app_name
  pub proc_id : IsWordOf 128 f.proc_id.now r.proc_id
  pub msg_id : IsWordOf 32 f.msg_id.now r.msg_id
  pub elements : IsDataOf f.items.now r.elements
  pub message : IsMessageOf f.has_bom f.message.now r.message

-- a field is refused, and this names it; or an allocation was
abbrev pub IsRefused : SyslogboxFields → SyslogboxFault → Type 0
IsRefused f told =
    (¬ ((f.facility < 24) × (f.severity < 8)) × (told ≡ field_fault 1 0))
    ⊎ (IsTimeRefused f.has_time f.time told
    ⊎ (IsWordRefused 255 4 f.hostname.now told
    ⊎ (IsWordRefused 48 5 f.app_name.now told
    ⊎ (IsWordRefused 128 6 f.proc_id.now told
    ⊎ (IsWordRefused 32 7 f.msg_id.now told
    ⊎ (IsDataRefused f.items.now told ⊎ IsMessageRefused f.has_bom f.message.now told))))))

-- the canonical text of the record of the fields
abbrev pub BuiltOf : SyslogboxFields → Language
BuiltOf f text = IsWithin text × (r : Parts ℤ) × IsRecord r × IsRecordOf f r × Canonical r text

-- why there is none: a field is refused, or the text is longer than an entry of an archive may be
abbrev pub IsNotBuilt : SyslogboxFields → SyslogboxFault → Type 0
IsNotBuilt f told =
    IsRefused f told
    ⊎ ((r : Parts ℤ) × (text : List ℕ) × IsRecord r × IsRecordOf f r × Canonical r text × IsTooLong text told)
