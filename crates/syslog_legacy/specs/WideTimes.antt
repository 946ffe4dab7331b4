-- TIMESTAMP of a packet in the wide dialect: as devices and programs spell it.
use Rattle.std.specs.Prelude.{◌≡◌, ◌≢◌, ℕ, ℤ, List, [], ◌∷◌, ◌⊎◌}
use Rattle.octet_language.specs.Digits.{IsDigit}
use Rattle.octet_language.specs.Language.{Language, Only, ◌⋅◌, AnyOf, IfFirst, NoPrefix}
use Rattle.octet_language.specs.Reading.{Follows}
use Rattle.syslog_value.specs.Instants.{IsCivil, instant_of}
use Rattle.syslog_value.specs.Parts.{IsInstant}
use Rattle.syslog_value.specs.declared.civil.Civil.{Civil}
use Rattle.syslog_fields.specs.Dates.{Clock}
use Rattle.syslog_fields.specs.Time.{CivilTime, Decimals, TimeText, YearText}
use Rattle.syslog_legacy.specs.declared.clock.LegacyClock.{LegacyClock}
use Rattle.syslog_legacy.specs.Parts.{Part, Optional, Without}
use Rattle.syslog_legacy.specs.Timestamps.{DateText}

-- yyyy and a space
abbrev pub SpacedYear : ℕ → Language
SpacedYear year = YearText year ⋅ Only (32 ∷ [])

-- Mmm dd and a space, of a month and a day that some year has: each that a leap year has
abbrev pub MonthDay : ℕ × ℕ → Language
MonthDay = DateText 2000

-- yyyy Mmm dd and a space
abbrev pub YearFirst : Part (ℕ × ℕ × ℕ)
YearFirst d b rest = (behind : List ℕ) × Follows (SpacedYear d.0) b behind × Follows (MonthDay (d.1, d.2)) behind rest

-- Mmm dd yyyy and a space; or Mmm dd and a space, in this year
abbrev pub DayFirst : ℕ → Part (ℕ × ℕ × ℕ)
DayFirst year d b rest =
    (behind : List ℕ) × Follows (MonthDay (d.1, d.2)) b behind
    × Optional (λ y. Follows (SpacedYear y)) year d.0 behind rest

-- a date with the name of its month
abbrev pub NamedDate : ℕ → Part (ℕ × ℕ × ℕ)
NamedDate year d b rest = YearFirst d b rest ⊎ (NoPrefix (AnyOf SpacedYear) b × DayFirst year d b rest)

-- a point and one to six digits, in microseconds, which no digit follows
abbrev pub Point : Part ℕ
Point micros b rest =
    (behind : List ℕ) × (b ≡ 46 ∷ behind) × Follows (Decimals micros) behind rest × IfFirst (λ x. ¬ (IsDigit x)) rest

-- a date with the name of its month, hh:mm:ss, and perhaps a fraction
abbrev pub NamedTime : ℕ → Part Civil
NamedTime year c b rest =
    (clock : List ℕ) × (behind : List ℕ) × NamedDate year (c.year, c.month, c.day) b clock
    × Follows (Clock (c.hour, c.minute, c.second)) clock behind × Optional Point 0 c.micros behind rest

-- a civil time that exists names the instant, which is in range
abbrev pub Names : Civil → ℤ → ℤ → Type 0
Names c offset i = IsCivil c × (i ≡ instant_of c offset) × IsInstant i

-- a timestamp of RFC 5424, whose year and offset count
abbrev pub OwnTime : Part ℤ
OwnTime i b rest = (t : CivilTime) × Follows (TimeText t) b rest × Names t.civil t.offset i

-- a time with the name of its month, at the clock's offset, and in the clock's year where it has none
abbrev pub ClockTime : LegacyClock → Part ℤ
ClockTime clock i b rest = (c : Civil) × NamedTime clock.year c b rest × Names c clock.offset_minutes i

-- one or the other
abbrev pub Stamp : LegacyClock → Part ℤ
Stamp clock i b rest = OwnTime i b rest ⊎ (NoPrefix (AnyOf TimeText) b × ClockTime clock i b rest)

-- without the star or the point that comes first, if one does
abbrev pub BehindMark : List ℕ → List ℕ → Type 0
BehindMark b rest = (b ≡ 42 ∷ rest) ⊎ ((b ≡ 46 ∷ rest) ⊎ (IfFirst (λ x. (x ≢ 42) × (x ≢ 46)) b × (rest ≡ b)))

-- perhaps a mark, the time, perhaps a colon, and a space
abbrev pub WideTime : LegacyClock → Part ℤ
WideTime clock i b rest =
    (stamp : List ℕ) × (behind : List ℕ) × BehindMark b stamp × Stamp clock i stamp behind
    × Without 58 behind (32 ∷ rest)
