-- The days that segments are named by.
use Rattle.std.specs.Prelude.{◌≡◌, ◌⊎◌, ℕ, ◌<◌, ℤ, ◌<ℤ◌, ◌≤ℤ◌, List, Option, None, Some, codes, length}
use Rattle.syslog_value.specs.Order.{OctetsBelow}
use Rattle.archive_text.specs.Entries.{Entry}
use Rattle.archive_text.specs.Periods.{IsIn, IsPeriodOf}
use Rattle.archive_text.specs.declared.period.Period.TheVariants.{Day}

-- the name of a day: `undated`, or the ten octets of a date
abbrev pub IsDayText : List ℕ → Type 0
IsDayText day = (day ≡ codes "undated") ⊎ (length day ≡ 10)

-- the name of a period of segments: a day, or `mixed`, whose segments have records of any days
abbrev pub IsPeriodText : List ℕ → Type 0
IsPeriodText period = IsDayText period ⊎ (period ≡ codes "mixed")

abbrev pub period_text : Option (List ℕ) → List ℕ
period_text None = codes "mixed"
period_text (Some day) = day

-- records of an instant, or of none, may be in segments of the period
abbrev pub MayHave : List ℕ → Option ℤ → Type 0
MayHave period instant = IsPeriodOf Day instant period ⊎ (period ≡ codes "mixed")

-- the entry is of the day
abbrev pub IsOf : List ℕ → Entry → Type 0
IsOf day e = IsIn Day day e

-- a day comes before another: `undated` first, as the shorter one, then the earlier date
abbrev pub IsDayBelow : List ℕ → List ℕ → Type 0
IsDayBelow a b = (length a < length b) ⊎ ((length a ≡ length b) × OctetsBelow a b)

-- a day comes behind the last one, if there was any
abbrev pub IsAfter : Option (List ℕ) → List ℕ → Type 0
IsAfter None day = Unit {0}
IsAfter (Some last) day = IsDayBelow last day

-- the day has an instant
abbrev pub HasInstant : List ℕ → Type 0
HasInstant day = (i : ℤ) × IsPeriodOf Day (Some i) day

-- all instants of a day are from this one on
abbrev pub IsFrom : ℤ → List ℕ → Type 0
IsFrom bound day = (i : ℤ) → IsPeriodOf Day (Some i) day → bound ≤ℤ i

-- all instants of a day are before this one
abbrev pub IsUpTo : ℤ → List ℕ → Type 0
IsUpTo bound day = (i : ℤ) → IsPeriodOf Day (Some i) day → i <ℤ bound
