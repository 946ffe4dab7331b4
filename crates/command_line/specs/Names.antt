-- The period that a word names.
use Rattle.std.specs.Prelude.{Option, Some, None, codes, if◌then◌else◌}
use Rattle.std.specs.Str.{bytes_eq}
use Rattle.clap.specs.Walk.{Text}
use Rattle.archive_text.specs.declared.period.Period.{Period}
use Rattle.archive_text.specs.declared.period.Period.TheVariants.{Month, Day, Hour}

-- the period with this name
abbrev pub period_of : Text → Option Period
period_of name =
    if bytes_eq name (codes "month") then Some Month
    else (if bytes_eq name (codes "day") then Some Day
    else (if bytes_eq name (codes "hour") then Some Hour else None))
