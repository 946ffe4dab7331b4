-- The clock of legacy packets, as the values of `--legacy`, `--zone` and `--dialect` write it.
use Rattle.std.specs.Prelude.{ℕ, ℤ, pos, neg_ℤ, ◌+◌, ◌*◌, List, [], ◌∷◌, Bool, true, false, T, Option, Some, None}
use Rattle.std.specs.Prelude.{nat_le, ◌==◌, length, take, drop, if◌then◌else◌, option_map, option_and_then, codes}
use Rattle.std.specs.Str.{bytes_eq}
use Rattle.std.specs.Int.Signed.{le_z, le_z_yes}
use Rattle.std.proofs.Math.Facts.{leb_yes}
use Rattle.clap.specs.Walk.{Text, Row, first_of}
use Rattle.syslog_legacy.specs.ClockReadings.{Clock}
use Rattle.syslog_legacy.specs.declared.clock.Dialect.{Dialect}
use Rattle.syslog_legacy.specs.declared.clock.Dialect.TheVariants.{Bsd, Wide}
use Rattle.syslog_legacy.specs.declared.clock.LegacyClock.{LegacyClock}
use Rattle.option_values.specs.Numbers.{number_in}
use Rattle.option_values.specs.Values.{optional}

-- two digits of hours and two of minutes, in minutes
abbrev pub minutes_of : Text → Option ℕ
minutes_of digits =
    if length digits == 4 then option_and_then (λ hours. option_map (λ minutes. hours * 60 + minutes)
    (number_in 0 59 (drop 2 digits))) (number_in 0 23 (take 2 digits)) else None

-- how many minutes the zone is ahead of UTC: E (69) is ahead, W (87) is behind
abbrev pub zone_of : Text → Option ℤ
zone_of [] = None
zone_of (letter ∷ digits) =
    if letter == 69 then option_map (λ n. pos n) (minutes_of digits)
    else (if letter == 87 then option_map (λ n. neg_ℤ (pos n)) (minutes_of digits) else None)

-- an answer under a test
abbrev pub where_holds : (t : Bool) → (T t → Option LegacyClock) → Option LegacyClock
where_holds true answer = answer tt
where_holds false answer = None

-- the clock of a year and an offset, where they are in range, of BSD packets
abbrev pub clock_at : ℕ → ℤ → Option LegacyClock
clock_at year offset =
    where_holds (nat_le 1 year) λ a. where_holds (nat_le year 9998) λ b.
    where_holds (le_z (neg_ℤ (pos 1439)) offset) λ c. where_holds (le_z offset (pos 1439)) λ d. Some record {
      year = year;
      offset_minutes = offset;
      dialect = Bsd;
      year_valid = (leb_yes a, leb_yes b);
      offset_valid = (le_z_yes c, le_z_yes d);
    }

-- the dialect with this name
abbrev pub dialect_of : Text → Option Dialect
dialect_of name =
    if bytes_eq name (codes "bsd") then Some Bsd else (if bytes_eq name (codes "wide") then Some Wide else None)

-- the value of `--legacy`, where it is given
abbrev pub year_in : List Row → Option (Option ℕ)
year_in rows = optional (number_in 1 9998) (first_of (codes "legacy") rows)

-- the value of `--zone`
abbrev pub offset_in : List Row → Option ℤ
offset_in rows = option_and_then zone_of (first_of (codes "zone") rows)

-- the value of `--dialect`
abbrev pub dialect_in : List Row → Option Dialect
dialect_in rows = option_and_then dialect_of (first_of (codes "dialect") rows)

-- the clock of a year, an offset and a dialect: without a year there is none
abbrev pub clock_by : Option ℕ → ℤ → Dialect → Option Clock
clock_by None offset dialect = Some None
clock_by (Some year) offset dialect =
    option_map (λ clock. Some (record clock { dialect = dialect })) (clock_at year offset)

-- the values of `--legacy`, `--zone` and `--dialect`: without a year the others are tested all the same
abbrev pub clock_in : List Row → Option Clock
clock_in rows =
    option_and_then (λ year. option_and_then (λ offset. option_and_then (clock_by year offset) (dialect_in rows))
    (offset_in rows)) (year_in rows)
