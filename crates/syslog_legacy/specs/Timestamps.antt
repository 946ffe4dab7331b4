-- TIMESTAMP of a legacy packet: "Mmm dd hh:mm:ss" and a space (RFC 3164, 4.1.2), in the year of a clock.
use Rattle.std.specs.Prelude.{◌≡◌, ℕ, ◌+◌, ◌-◌, ◌≤◌, ℤ, List, [], ◌∷◌, ◌⊎◌, codes, slice_index_or}
use Rattle.octet_language.specs.Language.{Language, Only, ◌⋅◌}
use Rattle.syslog_value.specs.Calendar.{month_length}
use Rattle.syslog_value.specs.Instants.{instant_of}
use Rattle.syslog_value.specs.declared.civil.Civil.{Civil}
use Rattle.syslog_fields.specs.Time.{ClockText, Two}
use Rattle.syslog_legacy.specs.declared.clock.LegacyClock.{LegacyClock}

-- Mmm of each month, in their order
abbrev pub months : List (List ℕ)
months =
    codes "Jan" ∷ codes "Feb" ∷ codes "Mar" ∷ codes "Apr" ∷ codes "May" ∷ codes "Jun"
    ∷ codes "Jul" ∷ codes "Aug" ∷ codes "Sep" ∷ codes "Oct" ∷ codes "Nov" ∷ codes "Dec" ∷ []

-- Mmm of a month from 1 to 12
abbrev pub month_name : ℕ → List ℕ
month_name m = slice_index_or months (m - 1) []

-- Mmm
abbrev pub MonthText : ℕ → Language
MonthText m b = (1 ≤ m) × (m ≤ 12) × (b ≡ month_name m)

-- dd of a day up to the last: two digits, or a space and one digit
abbrev pub DayText : ℕ → ℕ → Language
DayText last d b = Two 1 last d b ⊎ ((1 ≤ d) × (d ≤ last) × (d ≤ 9) × (b ≡ 32 ∷ (48 + d) ∷ []))

-- Mmm dd and a space, of a month and a day that the calendar has in that year
abbrev pub DateText : ℕ → ℕ × ℕ → Language
DateText year d = MonthText d.0 ⋅ Only (32 ∷ []) ⋅ DayText (month_length year d.0) d.1 ⋅ Only (32 ∷ [])

-- Mmm dd hh:mm:ss and a space
abbrev pub CivilText : Civil → Language
CivilText c = DateText c.year (c.month, c.day) ⋅ ClockText c.hour c.minute c.second ⋅ Only (32 ∷ [])

-- the instant is the civil time in the clock's year less the clock's offset
abbrev pub TimestampText : LegacyClock → ℤ → Language
TimestampText clock i b =
    (c : Civil) × (c.year ≡ clock.year) × (c.micros ≡ 0) × CivilText c b × (i ≡ instant_of c clock.offset_minutes)
