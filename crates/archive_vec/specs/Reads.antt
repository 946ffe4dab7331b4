-- What reading an archive answers.
use Rattle.std.specs.Prelude.{ℕ, List, ⊤}
use Rattle.archive_text.specs.Entries.{Entry}
use Rattle.archive_text.specs.Faults.{IsArchiveFault, IsFaultBehind}
use Rattle.archive_text.specs.declared.limits.TheConstants.{ENTRY_MAX}
use Rattle.archive_vec.specs.declared.reading.ReadFault.{ReadFault}
use Rattle.archive_vec.specs.declared.reading.ReadFault.TheVariants.{Bad, Memory}

-- a text goes on behind these entries with no further one, for this fault; or a growth was refused
abbrev pub IsFaultOn : List Entry → List ℕ → ReadFault → Type 0
IsFaultOn es rest (Bad fault) = IsFaultBehind ENTRY_MAX es rest fault
IsFaultOn es rest Memory = ⊤

-- the text is no archive, for this fault; or a growth was refused
abbrev pub IsReadFault : List ℕ → ReadFault → Type 0
IsReadFault text (Bad fault) = IsArchiveFault ENTRY_MAX text fault
IsReadFault text Memory = ⊤
