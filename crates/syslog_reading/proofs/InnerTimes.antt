-- Times whose instants are in range whatever their offsets.
use Rattle.std.proofs.Common.{◌≡◌, ℕ, ◌-◌, ◌≤◌, List, length, drop, refl}
use Rattle.std.proofs.Common.{true}
use Rattle.std.specs.Prelude.{ℤ, IfSome, Option, None, Some, option_map}
use Rattle.octet_language.specs.Language.{AnyOf}
use Rattle.octet_language.specs.Reading.{Follows}
use Rattle.syslog_value.specs.Instants.{IsCivil, IsOffset}
use Rattle.syslog_value.specs.Parts.{IsInstant}
use Rattle.syslog_value.proofs.InnerYears.{in_range}
use Rattle.syslog_fields.specs.Dates.{time_of}
use Rattle.syslog_fields.specs.Grammar.{Nilable, Spaced}
use Rattle.syslog_fields.specs.Time.{TimeText, instant}
use Rattle.syslog_fields.specs.declared.timestamp.Timestamp.{Timestamp}
use Rattle.syslog_reading.specs.CanonicalOctets.{shown_parts}
use Rattle.syslog_reading.specs.Parsing.{IsParsed}
use Rattle.syslog_reading.specs.WellFormed.{WellFormed}
use Rattle.syslog_reading.specs.declared.syntax.Parsed.{Parsed}
use Rattle.syslog_reading.proofs.Headers.{time_follows}
use Rattle.syslog_reading.proofs.RecordsOf.{some_record}
use Rattle.syslog_reading.proofs.Viewing.{time_exists, view_of}

-- a time of an inner year, if there is one
abbrev pub IsInnerTime : Option Timestamp → Type 0
IsInnerTime time = IfSome time (λ t. (1 ≤ t.civil.year) × (t.civil.year ≤ 9998))

-- it exists
pub inner_exists : (time : Option Timestamp) (octets rest : List ℕ)
    → Follows (Spaced (Nilable TimeText (option_map time_of time))) octets rest
    → IfSome time (λ t. IsCivil t.civil × IsOffset t.offset_minutes)
inner_exists None octets rest h = tt
inner_exists (Some t) octets rest (x, e, (s, y, f, h, k)) = time_exists (time_of t) s h

-- it names an instant in range
pub inner_range : (time : Option Timestamp) → IsInnerTime time
    → IfSome time (λ t. IsCivil t.civil × IsOffset t.offset_minutes)
    → IfSome (option_map (λ t. instant (time_of t)) time) IsInstant
inner_range None inner h = tt
inner_range (Some t) inner h = in_range t.civil t.offset_minutes inner h.0 h.1

-- the time of a record
pub parsed_range : (b : List ℕ) (s : Parsed) → IsParsed b s → IsInnerTime s.fields.time
    → IfSome (option_map (λ t. instant (time_of t)) s.fields.time) IsInstant
parsed_range b s k inner =
    inner_range s.fields.time inner
    (inner_exists s.fields.time (drop (length b - s.fields.time_remaining) b) s.fields.behind_time.now
    (time_follows b (drop (length b - s.fields.time_remaining) b) s k refl))

-- octets whose ids differ, and whose time is of an inner year, are a record
pub inner_record : (b : List ℕ) (s : Parsed) → IsParsed b s → s.differ ≡ true → IsInnerTime s.fields.time
    → AnyOf WellFormed b
inner_record b s k differ inner =
    let i : Option ℤ = option_map (λ t. instant (time_of t)) s.fields.time in
    some_record b (shown_parts s i)
    (view_of b s i k refl (parsed_range b s k inner)
    (k.elements.0, k.elements.1, k.differ differ k.elements.0 k.elements.1))
