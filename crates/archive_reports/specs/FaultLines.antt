-- The lines on texts that are no archive.
use Rattle.std.specs.Prelude.{ℕ, List, ◌++◌, codes, decimal}
use Rattle.archive_text.specs.declared.fault.ArchiveFault.{ArchiveFault}
use Rattle.archive_text.specs.declared.fault.ArchiveFault.TheVariants.{BadFrame, EntryTooLong, BadEntry, NotCanonical}
use Rattle.archive_text.specs.declared.fault.ArchiveFault.TheVariants.{NotAscending}
use Rattle.frame_engine.specs.Line.{fault_text}

-- a fault, and where it is
abbrev pub fault_words : ArchiveFault → List ℕ
fault_words (BadFrame at) = codes "bad-frame " ++ decimal at ++ codes "\n"
fault_words (EntryTooLong at) = codes "entry-too-long " ++ decimal at ++ codes "\n"
fault_words (BadEntry at fault) = codes "bad-entry " ++ decimal at ++ codes " " ++ fault_text fault ++ codes "\n"
fault_words (NotCanonical at) = codes "not-canonical " ++ decimal at ++ codes "\n"
fault_words (NotAscending at) = codes "not-ascending " ++ decimal at ++ codes "\n"

-- the same of the archive of this name
abbrev pub fault_line : List ℕ → ArchiveFault → List ℕ
fault_line name fault = (name ++ codes " ") ++ fault_words fault
