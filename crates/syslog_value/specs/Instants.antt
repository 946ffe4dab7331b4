-- Instants, in microseconds from 1970-01-01T00:00:00Z, and the civil times that name them (RFC 5424, 6.2.3).
use Rattle.std.specs.Prelude.{ℕ, ◌+◌, ◌*◌, ◌≤◌, ℤ, pos, neg_ℤ, ◌+ℤ◌, ◌-ℤ◌, ◌*ℤ◌, ◌≤ℤ◌}
use Rattle.syslog_value.specs.declared.civil.Civil.{Civil}
use Rattle.syslog_value.specs.declared.instant.TimeFault.{TimeFault}
use Rattle.syslog_value.specs.declared.instant.TimeFault.TheVariants.{NoSuchDate, NoSuchTime, BadOffset, OutOfRange}
use Rattle.syslog_value.specs.Calendar.{day_number, IsDay}
use Rattle.syslog_value.specs.Parts.{IsInstant}

abbrev pub second_of_day : Civil → ℕ
second_of_day c = c.hour * 3600 + c.minute * 60 + c.second

-- the civil time less its offset, in minutes
abbrev pub instant_of : Civil → ℤ → ℤ
instant_of c offset =
    (day_number c.year c.month c.day *ℤ pos 86_400 +ℤ pos (second_of_day c) -ℤ offset *ℤ pos 60) *ℤ pos 1_000_000
    +ℤ pos c.micros

abbrev pub HasDate : Civil → Type 0
HasDate c = IsDay c.year c.month c.day

abbrev pub HasTime : Civil → Type 0
HasTime c = (c.hour ≤ 23) × (c.minute ≤ 59) × (c.second ≤ 59) × (c.micros ≤ 999_999)

-- less than a day either way
abbrev pub IsOffset : ℤ → Type 0
IsOffset z = (neg_ℤ (pos 1439) ≤ℤ z) × (z ≤ℤ pos 1439)

-- the civil time exists
abbrev pub IsCivil : Civil → Type 0
IsCivil c = HasDate c × HasTime c

-- why a civil time with an offset names no instant: the first cause that holds
abbrev pub IsFault : Civil → ℤ → TimeFault → Type 0
IsFault c o NoSuchDate = ¬ (HasDate c)
IsFault c o NoSuchTime = HasDate c × ¬ (HasTime c)
IsFault c o BadOffset = IsCivil c × ¬ (IsOffset o)
IsFault c o OutOfRange = IsCivil c × IsOffset o × ¬ (IsInstant (instant_of c o))
