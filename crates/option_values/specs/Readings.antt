-- How frames are read, as options say it.
use Rattle.std.specs.Prelude.{List, Option, codes, option_map}
use Rattle.clap.specs.Walk.{Row}
use Rattle.syslog_legacy.specs.declared.frame_reading.FrameReading.{FrameReading}
use Rattle.option_values.specs.Clocks.{clock_in}
use Rattle.option_values.specs.Values.{is_given_in}

-- the values of `--trim`, and of the options of legacy packets
abbrev pub reading_in : List Row → Option FrameReading
reading_in rows =
    option_map (λ clock. record { trim = is_given_in (codes "trim") rows; clock = clock }) (clock_in rows)
