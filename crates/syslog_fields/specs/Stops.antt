-- Where a reader stops.
use Rattle.std.specs.Prelude.{ℕ}
use Rattle.syslog_fields.specs.declared.reading.Stop.{Stop}

-- the octets left there
abbrev pub remaining_of : Stop → ℕ
remaining_of stop = stop.remaining
