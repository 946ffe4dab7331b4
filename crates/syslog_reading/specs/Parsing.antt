-- A whole record as it lies in the octets, and where octets are outside the grammar.
use Rattle.std.specs.Prelude.{◌≡◌, ◌≢◌, ℕ, ◌-◌, ◌<◌, ◌≤◌, List, ◌∷◌, ◌++◌, length, take, ◌⊎◌, IsTrue}
use Rattle.octet_language.specs.Language.{AnyOf, IfFirst}
use Rattle.octet_language.specs.Reading.{Follows}
use Rattle.syslog_reading.specs.declared.fault.Field.TheVariants as field
use Rattle.syslog_fields.specs.Grammar.{Header, StructuredDataText, MessagePart}
use Rattle.syslog_reading.specs.Faults.{FaultOf, times}
use Rattle.syslog_reading.specs.Fields.{header_parts, before_words, words_of, TimeStands}
use Rattle.syslog_reading.specs.DataForms.{HasDataForms}
use Rattle.syslog_reading.specs.Ids.{IdsDiffer}
use Rattle.syslog_reading.specs.Views.{message_parts}
use Rattle.syslog_reading.specs.declared.syntax.Parsed.{Parsed}
use Rattle.syslog_reading.specs.declared.fault.Field.{Field}
use Rattle.syslog_reading.specs.declared.fault.Fault.{Fault}
use Rattle.syslog_reading.specs.declared.fault.Fault.TheVariants.{Syntax, InstantRange, RepeatedId}

-- the field by the spaces of the prefix, where it is not the message
abbrev pub IsCounted : List ℕ → Field → Type 0
IsCounted prefix field.Priority = times 62 prefix ≡ 0
IsCounted prefix field.Version = (0 < times 62 prefix) × (times 32 prefix ≡ 0)
IsCounted prefix field.Timestamp = (0 < times 62 prefix) × (times 32 prefix ≡ 1)
IsCounted prefix field.Hostname = (0 < times 62 prefix) × (times 32 prefix ≡ 2)
IsCounted prefix field.AppName = (0 < times 62 prefix) × (times 32 prefix ≡ 3)
IsCounted prefix field.ProcId = (0 < times 62 prefix) × (times 32 prefix ≡ 4)
IsCounted prefix field.MsgId = (0 < times 62 prefix) × (times 32 prefix ≡ 5)
IsCounted prefix field.StructuredData = (0 < times 62 prefix) × (6 ≤ times 32 prefix)
IsCounted prefix field.Message = ⊥

-- a fault of the syntax before the message, with so many octets left
abbrev pub IsSyntaxAt : List ℕ → ℕ → Fault → Type 0
IsSyntaxAt b remaining (Syntax f at) = (at ≡ length b - remaining) × IsCounted (take (length b - remaining) b) f
IsSyntaxAt b remaining (InstantRange at) = ⊥
IsSyntaxAt b remaining (RepeatedId at) = ⊥

-- a fault of the syntax after the structured data: in the message where a space is next
abbrev pub IsFaultBehind : List ℕ → List ℕ → ℕ → Fault → Type 0
IsFaultBehind b rest remaining (Syntax f at) = (at ≡ length b - remaining)
    × (((f ≡ field.Message) × (m : List ℕ) × (rest ≡ 32 ∷ m))
    ⊎ (IfFirst (λ x. x ≢ 32) rest × IsCounted (take (length b - remaining) b) f))
IsFaultBehind b rest remaining (InstantRange at) = ⊥
IsFaultBehind b rest remaining (RepeatedId at) = ⊥

-- the octets are outside the grammar, and this is their fault
abbrev pub IsSyntaxFault : List ℕ → Fault → Type 0
IsSyntaxFault b (Syntax f at) = FaultOf b (Syntax f at)
IsSyntaxFault b (InstantRange at) = ⊥
IsSyntaxFault b (RepeatedId at) = ⊥

-- the octets are a header, structured data and a tail
pub record IsParsed (b : List ℕ) (s : Parsed) : Type 0 where
  pub rest : List ℕ
  pub end : List ℕ
  pub fields : Follows (Header (header_parts s.fields)) b rest
  pub time : TimeStands b s.fields.time_remaining
  pub behind : Follows (before_words (header_parts s.fields)) b s.fields.behind_time.now
  pub words : Follows (words_of (header_parts s.fields)) s.fields.behind_time.now rest
  pub parts : rest ≡ s.structured_data.now ++ end
  pub remaining : length rest ≡ s.structured_data_remaining
  pub elements : AnyOf StructuredDataText s.structured_data.now
  pub forms : HasDataForms s.is_form s.ascends s.structured_data.now
  pub differ : IsTrue s.differ → IdsDiffer s.structured_data.now
  pub message_part : MessagePart (message_parts s.message) end
