-- Where faults are.
use Rattle.std.specs.Prelude.{ℕ, ◌+◌}
use Rattle.archive_text.specs.declared.fault.ArchiveFault.{ArchiveFault}
use Rattle.archive_text.specs.declared.fault.ArchiveFault.TheVariants.{BadFrame, EntryTooLong, BadEntry, NotCanonical}
use Rattle.archive_text.specs.declared.fault.ArchiveFault.TheVariants.{NotAscending}

-- the position of a fault
abbrev pub position_of : ArchiveFault → ℕ
position_of (BadFrame at) = at
position_of (EntryTooLong at) = at
position_of (BadEntry at fault) = at
position_of (NotCanonical at) = at
position_of (NotAscending at) = at

-- the same fault, so many octets later
abbrev pub later : ℕ → ArchiveFault → ArchiveFault
later n (BadFrame at) = BadFrame (n + at)
later n (EntryTooLong at) = EntryTooLong (n + at)
later n (BadEntry at fault) = BadEntry (n + at) fault
later n (NotCanonical at) = NotCanonical (n + at)
later n (NotAscending at) = NotAscending (n + at)
