-- The fault of an entry.
use Rattle.std.specs.Prelude.{◌≡◌, ℕ, List}
use Rattle.archive_text.specs.Faults.{IsEntryFault}
use Rattle.archive_text.specs.declared.fault.ArchiveFault.{ArchiveFault}
use Rattle.archive_text.specs.declared.fault.ArchiveFault.TheVariants.{BadEntry, NotCanonical}
use Rattle.archive_text.specs.declared.fault.EntryFault.TheVariants.{Bad, NotCanonical as entry_NotCanonical}

-- octets are no entry, for this fault at their first digit
abbrev pub IsJudged : List ℕ → ArchiveFault → Type 0
IsJudged b (BadEntry at fault) = (at ≡ 0) × IsEntryFault b (Bad fault)
IsJudged b (NotCanonical at) = (at ≡ 0) × IsEntryFault b entry_NotCanonical
IsJudged b fault = ⊥
