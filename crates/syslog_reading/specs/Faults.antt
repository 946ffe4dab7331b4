-- Well-formed records, and why octets are none.
use Rattle.std.specs.Prelude.{◌≡◌, ℕ, ◌<◌, ◌≤◌, List, [], ◌∷◌, ◌++◌, length, take, count_by, ◌==◌, IfSome, ⊤}
use Rattle.octet_language.specs.Language.{Language, Only, ◌⋅◌, AnyOf, Each, IsFaultOffset}
use Rattle.syslog_value.specs.Parts.{ElementParts, Parts, IsInstant}
use Rattle.syslog_value.specs.Structured.{HasId}
use Rattle.syslog_reading.specs.declared.fault.Field.TheVariants as field
use Rattle.syslog_fields.specs.Grammar.{Priority, Version, Spaced, Header, Element, StructuredDataText, SyslogMsg}
use Rattle.syslog_fields.specs.Time.{CivilTime, instant}
use Rattle.syslog_reading.specs.declared.fault.Field.{Field}
use Rattle.syslog_reading.specs.declared.fault.Fault.{Fault}
use Rattle.syslog_reading.specs.declared.fault.Fault.TheVariants.{Syntax, InstantRange, RepeatedId}

-- the time, if there is one, names an instant in range
abbrev pub IsInRange : Parts CivilTime → Type 0
IsInRange p = IfSome p.time (λ t. IsInstant (instant t))

-- no id is repeated
abbrev pub AreDistinct : List ElementParts → Type 0
AreDistinct [] = ⊤
AreDistinct (e ∷ es) = ¬ (HasId e.id es) × AreDistinct es

-- how often an octet occurs in a text
abbrev pub times : ℕ → List ℕ → ℕ
times x b = count_by (λ y. y == x) b

-- a prefix is a whole header, structured data and a space
abbrev pub HoldsStructuredData : List ℕ → Type 0
HoldsStructuredData b = (x : List ℕ) × (y : List ℕ) × (b ≡ x ++ y)
    × (AnyOf Header ⋅ AnyOf StructuredDataText ⋅ Only (32 ∷ [])) x

-- the field in which a prefix of a record ends
abbrev pub EndsIn : List ℕ → Field → Type 0
EndsIn prefix field.Priority = times 62 prefix ≡ 0
EndsIn prefix field.Version = (0 < times 62 prefix) × (times 32 prefix ≡ 0)
EndsIn prefix field.Timestamp = (0 < times 62 prefix) × (times 32 prefix ≡ 1)
EndsIn prefix field.Hostname = (0 < times 62 prefix) × (times 32 prefix ≡ 2)
EndsIn prefix field.AppName = (0 < times 62 prefix) × (times 32 prefix ≡ 3)
EndsIn prefix field.ProcId = (0 < times 62 prefix) × (times 32 prefix ≡ 4)
EndsIn prefix field.MsgId = (0 < times 62 prefix) × (times 32 prefix ≡ 5)
EndsIn prefix field.StructuredData = (0 < times 62 prefix) × (6 ≤ times 32 prefix) × ¬ (HoldsStructuredData prefix)
EndsIn prefix field.Message = HoldsStructuredData prefix

-- b begins with a text of the language that is so many octets long
abbrev pub PrefixEnds : Language → List ℕ → ℕ → Type 0
PrefixEnds L b at = (x : List ℕ) × (y : List ℕ) × (b ≡ x ++ y) × L x × (at ≡ length x)

-- an element of the list repeats the id of one before it, none of those before does
pub record Repeats (es before : List ElementParts) : Type 0 where
  pub element : ElementParts
  pub behind : List ElementParts
  pub parts : es ≡ before ++ element ∷ behind
  pub distinct : AreDistinct before
  pub same : HasId element.id before

-- the fault of octets: outside the grammar at its offset, else the instant, else an id
abbrev pub FaultOf : List ℕ → Fault → Type 0
FaultOf b (Syntax f at) = ¬ (AnyOf SyslogMsg b) × IsFaultOffset (AnyOf SyslogMsg) b at × EndsIn (take at b) f
FaultOf b (InstantRange at) = (p : Parts CivilTime) × SyslogMsg p b × ¬ (IsInRange p)
    × PrefixEnds (AnyOf Priority ⋅ Spaced Version) b at
FaultOf b (RepeatedId at) = (p : Parts CivilTime) × SyslogMsg p b × IsInRange p
    × (before : List ElementParts) × Repeats p.elements before
    × PrefixEnds (AnyOf Header ⋅ Each Element before ⋅ Only (91 ∷ [])) b at
