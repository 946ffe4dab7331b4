-- The instant of a timestamp.
use Rattle.std.specs.Prelude.{◌≡◌, ℤ, Option, Some, None, Result, Ok, Err, IfSome, option_map}
use Rattle.syslog_value.specs.Parts.{IsInstant}
use Rattle.syslog_value.specs.Instants.{IsCivil, IsOffset}
use Rattle.syslog_fields.specs.Dates.{time_of}
use Rattle.syslog_fields.specs.Time.{instant}
use Rattle.syslog_fields.specs.declared.timestamp.Timestamp.{Timestamp}

-- an existing time names no instant in range
abbrev pub IsOutOfRange : Option Timestamp → Type 0
IsOutOfRange None = ⊥
IsOutOfRange (Some t) = IsCivil t.civil → IsOffset t.offset_minutes → ¬ (IsInstant (instant (time_of t)))

-- the instant that a time names, if there is a time
abbrev pub IsTimeOf : {E : Type 0} → Option Timestamp → Result (Option ℤ) E → Type 0
IsTimeOf t (Ok micros) = (micros ≡ option_map (λ s. instant (time_of s)) t) × IfSome micros IsInstant
IsTimeOf t (Err e) = IsOutOfRange t

-- the time, if there is one, names an instant in range
abbrev pub IsTimeInRange : Option Timestamp → Type 0
IsTimeInRange t = IfSome (option_map (λ s. instant (time_of s)) t) IsInstant
