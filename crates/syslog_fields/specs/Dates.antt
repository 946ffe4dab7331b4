-- The parts of a timestamp as they are read, one after the other.
use Rattle.std.specs.Prelude.{ℕ, ℤ, List, [], ◌∷◌}
use Rattle.octet_language.specs.Language.{Language, Only, ◌⋅◌}
use Rattle.octet_language.specs.Reading.{Follows}
use Rattle.syslog_fields.specs.declared.timestamp.Timestamp.{Timestamp}
use Rattle.syslog_fields.specs.Time.{CivilTime, Two, YearText, DateText, ClockText, FractionText, ZoneText}

-- a year and a month
abbrev pub YearMonth : ℕ × ℕ → Language
YearMonth d = YearText d.0 ⋅ Only (45 ∷ []) ⋅ Two 1 12 d.1

-- a year, a month and a day
abbrev pub Date : ℕ × ℕ × ℕ → Language
Date d = DateText d.0 d.1 d.2

-- an hour and a minute
abbrev pub HourMinute : ℕ × ℕ → Language
HourMinute c = Two 0 23 c.0 ⋅ Only (58 ∷ []) ⋅ Two 0 59 c.1

-- an hour, a minute and a second
abbrev pub Clock : ℕ × ℕ × ℕ → Language
Clock c = ClockText c.0 c.1 c.2

-- octets that begin with a date, "T" and the time of a day, and what follows
abbrev pub DateClock : (ℕ × ℕ × ℕ) × (ℕ × ℕ × ℕ) → List ℕ → List ℕ → Type 0
DateClock d b end = (rest : List ℕ) × (after : List ℕ) × Follows (Date d.0) b rest
    × Follows (Only (84 ∷ [])) rest after × Follows (Clock d.1) after end

-- microseconds and an offset in minutes
abbrev pub FractionZone : ℕ × ℤ → Language
FractionZone f = FractionText f.0 ⋅ ZoneText f.1

abbrev pub time_of : Timestamp → CivilTime
time_of t = record { civil = t.civil; offset = t.offset_minutes }
