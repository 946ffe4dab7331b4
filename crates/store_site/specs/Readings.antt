-- Why the records of a store are not read.
use Rattle.disk.specs.States.{Files}
use Rattle.archive_sets.specs.declared.range.InRange.{InRange}
use Rattle.store_reading.specs.Causes.{IsCause, reading_causes}
use Rattle.store_site.specs.declared.fault.SetReadFault.{SetReadFault}
use Rattle.store_site.specs.declared.fault.SetReadFault.TheVariants.{Read, NoArchive, TooMuch, Memory}

-- a fault of the folder has its cause; what a folder that tells gives is always an archive
abbrev pub IsSetReadCause : Type 0 → Type 0 → Files → InRange → SetReadFault → Type 0
IsSetReadCause tells failed files range (Read fault) = IsCause (reading_causes tells failed files range) fault
IsSetReadCause tells failed files range NoArchive = ¬ tells
IsSetReadCause tells failed files range TooMuch = Unit {0}
IsSetReadCause tells failed files range Memory = Unit {0}
