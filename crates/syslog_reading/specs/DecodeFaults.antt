-- Why octets give no record.
use Rattle.std.specs.Prelude.{ℕ, List}
use Rattle.octet_language.specs.Language.{AnyOf}
use Rattle.syslog_reading.specs.Faults.{FaultOf}
use Rattle.syslog_reading.specs.WellFormed.{WellFormed}
use Rattle.syslog_reading.specs.declared.decoding.DecodeFault.{DecodeFault}
use Rattle.syslog_reading.specs.declared.decoding.DecodeFault.TheVariants.{Bad, Memory}

-- the fault of the octets, which are no record; or they are a record and memory was refused
abbrev pub IsDecodeFault : List ℕ → DecodeFault → Type 0
IsDecodeFault b (Bad fault) = FaultOf b fault × ¬ (AnyOf WellFormed b)
IsDecodeFault b Memory = AnyOf WellFormed b
