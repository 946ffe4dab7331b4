-- Faults by the numbers of include/syslogbox.h.
use Rattle.std.specs.Prelude.{◌≡◌, ℕ, ◌<◌, ◌≤◌, ◌⊎◌, List, length}
use Rattle.octet_language.specs.Language.{AnyOf}
use Rattle.syslog_reading.specs.declared.fault.Field.{Field}
use Rattle.syslog_reading.specs.declared.fault.Field.TheVariants as field
use Rattle.syslog_reading.specs.declared.fault.Fault.{Fault}
use Rattle.syslog_reading.specs.declared.fault.Fault.TheVariants.{Syntax, InstantRange, RepeatedId}
use Rattle.syslog_reading.specs.Faults.{FaultOf}
use Rattle.syslog_reading.specs.WellFormed.{WellFormed}
use Rattle.archive_text.specs.declared.limits.TheConstants.{ENTRY_MAX}
use Rattle.archive_text.specs.declared.fault.ArchiveFault.{ArchiveFault}
use Rattle.archive_text.specs.declared.fault.ArchiveFault.TheVariants.{BadFrame, EntryTooLong, BadEntry, NotCanonical}
use Rattle.archive_text.specs.declared.fault.ArchiveFault.TheVariants.{NotAscending}
use Rattle.c_library.specs.declared.fault.SyslogboxFault.{SyslogboxFault}

-- the fields of a record, in their order
abbrev pub field_number : Field → ℕ
field_number field.Priority = 1
field_number field.Version = 2
field_number field.Timestamp = 3
field_number field.Hostname = 4
field_number field.AppName = 5
field_number field.ProcId = 6
field_number field.MsgId = 7
field_number field.StructuredData = 8
field_number field.Message = 9

-- a fault without a field
abbrev pub plain_fault : ℕ → ℕ → SyslogboxFault
plain_fault kind offset = record { kind = kind; field = 0; offset = offset }

-- why octets are no record
abbrev pub record_fault : Fault → SyslogboxFault
record_fault (Syntax f at) = record { kind = 1; field = field_number f; offset = at }
record_fault (InstantRange at) = plain_fault 2 at
record_fault (RepeatedId at) = plain_fault 3 at

-- the message of a legacy packet starts with the BOM and is no UTF-8 there
abbrev pub utf8_fault : ℕ → SyslogboxFault
utf8_fault at = plain_fault 4 at

-- why a text is no archive; its field is the side, 10 for the left and 11 for the right
abbrev pub archive_fault : ℕ → ArchiveFault → SyslogboxFault
archive_fault side (BadFrame at) = record { kind = 5; field = side; offset = at }
archive_fault side (EntryTooLong at) = record { kind = 6; field = side; offset = at }
archive_fault side (BadEntry at fault) = record { kind = 7; field = side; offset = at }
archive_fault side (NotCanonical at) = record { kind = 8; field = side; offset = at }
archive_fault side (NotAscending at) = record { kind = 9; field = side; offset = at }

-- the room is smaller than this
abbrev pub room_fault : ℕ → SyslogboxFault
room_fault needed = plain_fault 10 needed

-- an allocation was refused
abbrev pub memory_fault : SyslogboxFault
memory_fault = plain_fault 11 0

-- the year or the offset is out of range
abbrev pub clock_fault : SyslogboxFault
clock_fault = plain_fault 12 0

-- there is no such dialect
abbrev pub dialect_fault : SyslogboxFault
dialect_fault = plain_fault 16 0

-- a field that is to be written may not be so, from an octet on
abbrev pub field_fault : ℕ → ℕ → SyslogboxFault
field_fault field offset = record { kind = 17; field = field; offset = offset }

-- the item of this number is refused
abbrev pub item_fault : ℕ → SyslogboxFault
item_fault number = record { kind = 18; field = 8; offset = number }

-- there is no such period
abbrev pub period_fault : SyslogboxFault
period_fault = plain_fault 19 0

-- there are so many elements, or parameters, and no more
abbrev pub element_fault : ℕ → SyslogboxFault
element_fault count = plain_fault 13 count

abbrev pub param_fault : ℕ → SyslogboxFault
param_fault count = plain_fault 14 count

-- one of these faults is told, by its numbers
abbrev pub Tells : {F : Type 0} → (F → SyslogboxFault) → (F → Type 0) → SyslogboxFault → Type 0
Tells {F} numbers Is told = (fault : F) × Is fault × (told ≡ numbers fault)

-- ---- records that are read

-- there are no more octets than an entry of an archive may have
abbrev pub IsWithin : List ℕ → Type 0
IsWithin b = length b ≤ ENTRY_MAX

-- a record that is read
abbrev pub IsRead : List ℕ → Type 0
IsRead b = IsWithin b × AnyOf WellFormed b

-- there are more octets than are read, which is told
abbrev pub IsTooLong : List ℕ → SyslogboxFault → Type 0
IsTooLong b told = (ENTRY_MAX < length b) × (told ≡ plain_fault 15 ENTRY_MAX)

-- why octets are no record that is read: they are too many, or no record
abbrev pub IsNotRead : List ℕ → SyslogboxFault → Type 0
IsNotRead b told = IsTooLong b told ⊎ (IsWithin b × Tells record_fault (FaultOf b) told)
