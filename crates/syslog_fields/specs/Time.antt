-- Civil times and their spelling (RFC 5424, 6.2.3).
use Rattle.std.specs.Prelude.{◌≡◌, ℕ, zero, suc, ℤ, pos, neg_ℤ, ◌+◌, ◌-◌, ◌*◌, ◌/◌, ◌%◌, ◌≤◌, List, [], ◌∷◌, ◌++◌, ◌⊎◌}
use Rattle.std.specs.Prelude.{length, replicate}
use Rattle.std.specs.List.{AllByRecursion}
use Rattle.octet_language.specs.Digits.{IsDigit, read_on}
use Rattle.octet_language.specs.Language.{Language, Only, ◌⋅◌}
use Rattle.syslog_value.specs.Calendar.{month_length}
use Rattle.syslog_value.specs.Instants.{instant_of}
use Rattle.syslog_value.specs.declared.civil.Civil.{Civil}

-- a civil time, and how many minutes it is ahead of UTC
pub record CivilTime : Type 0 where
  pub civil : Civil
  pub offset : ℤ

-- microseconds from 1970-01-01T00:00:00Z
abbrev pub instant : CivilTime → ℤ
instant t = instant_of t.civil t.offset

-- n in so many decimal digits
abbrev pub padded : ℕ → ℕ → List ℕ
padded zero n = []
padded (suc width) n = padded width (n / 10) ++ (48 + n % 10) ∷ []

-- a number from low to high in two digits
abbrev pub Two : ℕ → ℕ → ℕ → Language
Two low high n b = (low ≤ n) × (n ≤ high) × (b ≡ padded 2 n)

-- DATE-FULLYEAR: 0000 to 9999
abbrev pub YearText : ℕ → Language
YearText y b = (y ≤ 9999) × (b ≡ padded 4 y)

-- FULL-DATE: YYYY-MM-DD, of a day that the calendar has
abbrev pub DateText : ℕ → ℕ → ℕ → Language
DateText year month day = YearText year ⋅ Only (45 ∷ []) ⋅ Two 1 12 month ⋅ Only (45 ∷ []) ⋅ Two 1
    (month_length year month) day

-- hh:mm:ss, with no leap second
abbrev pub ClockText : ℕ → ℕ → ℕ → Language
ClockText hour minute second = Two 0 23 hour ⋅ Only (58 ∷ []) ⋅ Two 0 59 minute ⋅ Only (58 ∷ []) ⋅ Two 0 59 second

-- one to six digits, which zeros on the right make microseconds
abbrev pub Decimals : ℕ → Language
Decimals micros b = (1 ≤ length b) × (length b ≤ 6) × AllByRecursion IsDigit b
    × (micros ≡ read_on 0 (b ++ replicate (6 - length b) 48))

-- TIME-SECFRAC: nothing, or a point and digits
abbrev pub FractionText : ℕ → Language
FractionText micros b = ((micros ≡ 0) × (b ≡ [])) ⊎ (Only (46 ∷ []) ⋅ Decimals micros) b

-- hh:mm of an offset, in minutes
abbrev pub OffsetText : ℕ → Language
OffsetText minutes b = (hour : ℕ) × (minute : ℕ) × (minutes ≡ 60 * hour + minute)
    × (Two 0 23 hour ⋅ Only (58 ∷ []) ⋅ Two 0 59 minute) b

-- TIME-OFFSET: "Z", or a sign, hours and minutes
abbrev pub ZoneText : ℤ → Language
ZoneText offset b = ((offset ≡ pos 0) × (b ≡ 90 ∷ []))
    ⊎ ((minutes : ℕ) × (((offset ≡ pos minutes) × (Only (43 ∷ []) ⋅ OffsetText minutes) b)
    ⊎ ((offset ≡ neg_ℤ (pos minutes)) × (Only (45 ∷ []) ⋅ OffsetText minutes) b)))

-- TIMESTAMP, but for NILVALUE
abbrev pub TimeText : CivilTime → Language
TimeText t =
    DateText t.civil.year t.civil.month t.civil.day ⋅ Only (84 ∷ []) ⋅ ClockText t.civil.hour t.civil.minute
    t.civil.second
    ⋅ FractionText t.civil.micros ⋅ ZoneText t.offset
