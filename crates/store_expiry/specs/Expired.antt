-- What is expired.
use Rattle.std.specs.Prelude.{◌≡◌, ℤ, pos, ◌+ℤ◌, ◌*ℤ◌, ◌<ℤ◌, ◌≤ℤ◌, Bool, true, Option, None, Some}
use Rattle.archive_text.specs.Entries.{Entry}
use Rattle.store_expiry.specs.declared.expired.Expired.{Expired}

-- an instant lies in the hour that begins at another one, a whole number of hours from 1970-01-01T00:00:00Z
pub record IsHourOf (instant hour : ℤ) : Type 0 where
  pub number : ℤ
  pub whole : hour ≡ (number *ℤ pos 3_600_000_000)
  pub begun : hour ≤ℤ instant
  pub lasts : instant <ℤ (hour +ℤ pos 3_600_000_000)

-- an instant is before the hour of a time; none is where that is said
abbrev pub IsBeforeHour : ℤ → Bool → Option ℤ → Type 0
IsBeforeHour time undated None = undated ≡ true
IsBeforeHour time undated (Some i) = (hour : ℤ) × IsHourOf time hour × (i <ℤ hour)

-- an instant is before another one; none is where that is said
abbrev pub IsBefore : ℤ → Bool → Option ℤ → Type 0
IsBefore before undated None = undated ≡ true
IsBefore before undated (Some i) = i <ℤ before

-- the record of an entry is expired
abbrev pub IsExpired : Expired → Entry → Type 0
IsExpired x e = IsBefore x.before x.undated e.instant
