-- Why a text is no old archive.
use Rattle.std.specs.Prelude.{◌≡◌, ℕ, ◌+◌, ◌<◌, ◌≤◌, List, [], ◌∷◌, ◌++◌, length}
use Rattle.octet_language.specs.Language.{AnyOf}
use Rattle.syslog_reading.specs.Faults.{FaultOf}
use Rattle.syslog_reading.specs.WellFormed.{WellFormed}
use Rattle.archive_text.specs.Entries.{Entry, IsAscending}
use Rattle.archive_text.specs.Faults.{BeginsWithOctets, IsBadFrame, IsTooLong}
use Rattle.archive_text.specs.Text.{text_of}
use Rattle.archive_text.specs.declared.fault.ArchiveFault.{ArchiveFault}
use Rattle.archive_text.specs.declared.fault.ArchiveFault.TheVariants.{BadFrame, EntryTooLong, BadEntry, NotCanonical}
use Rattle.archive_text.specs.declared.fault.ArchiveFault.TheVariants.{NotAscending}
use Rattle.archive_text.specs.declared.fault.EntryFault.{EntryFault}
use Rattle.archive_text.specs.declared.fault.EntryFault.TheVariants.{Bad, NotCanonical as entry_NotCanonical}
use Rattle.archive_migration.specs.OldEntries.{IsOldArchive, IsOldEntry}

-- the octets are the canonical form of no record, in any order of its elements
abbrev pub IsNoOldEntry : List ℕ → Type 0
IsNoOldEntry b = (e : Entry) → IsOldEntry e → ¬ (e.octets ≡ b)

-- the octets are no record, for this fault; or a record that is not written canonically in any order of its elements
abbrev pub IsOldEntryFault : List ℕ → EntryFault → Type 0
IsOldEntryFault b (Bad fault) = FaultOf b fault × ¬ (AnyOf WellFormed b)
IsOldEntryFault b entry_NotCanonical = AnyOf WellFormed b × IsNoOldEntry b

-- why a text begins with no old entry: the first cause that holds
abbrev pub IsOldFaultBefore : ℕ → List ℕ → ArchiveFault → Type 0
IsOldFaultBefore most text (BadFrame at) = IsBadFrame most text at
IsOldFaultBefore most text (EntryTooLong at) = (at ≡ 0) × IsTooLong most text
IsOldFaultBefore most text (BadEntry at fault) =
    (at ≡ 0) × ((b : List ℕ) × BeginsWithOctets most text b × IsOldEntryFault b (Bad fault))
IsOldFaultBefore most text (NotCanonical at) =
    (at ≡ 0) × ((b : List ℕ) × BeginsWithOctets most text b × IsOldEntryFault b entry_NotCanonical)
IsOldFaultBefore most text (NotAscending at) = ⊥

-- the longest prefix of a text that is an old archive: these entries, and what follows them
pub record IsLongestOldArchive (most : ℕ) (text : List ℕ) (es : List Entry) (rest : List ℕ) : Type 0 where
  pub archive : IsOldArchive most es
  pub parts : text ≡ text_of es ++ rest
  pub longest : (fs : List Entry) (s : List ℕ) → IsOldArchive most fs → text ≡ text_of fs ++ s
      → length (text_of fs) ≤ length (text_of es)

-- the next old entry is not above those before it
abbrev pub IsNotAscending : ℕ → List Entry → List ℕ → Type 0
IsNotAscending most es rest =
    (e : Entry) × IsOldEntry e × BeginsWithOctets most rest e.octets × ¬ (IsAscending (es ++ e ∷ []))

-- why a text goes on behind these entries with no further one, positions counted from its start
abbrev pub IsOldFaultBehind : ℕ → List Entry → List ℕ → ArchiveFault → Type 0
IsOldFaultBehind most es rest (BadFrame at) =
    (n : ℕ) × IsBadFrame most rest n × (at ≡ length (text_of es) + n)
IsOldFaultBehind most es rest (EntryTooLong at) = (at ≡ length (text_of es)) × IsTooLong most rest
IsOldFaultBehind most es rest (BadEntry at fault) =
    (at ≡ length (text_of es)) × IsOldFaultBefore most rest (BadEntry 0 fault)
IsOldFaultBehind most es rest (NotCanonical at) =
    (at ≡ length (text_of es)) × IsOldFaultBefore most rest (NotCanonical 0)
IsOldFaultBehind most es rest (NotAscending at) =
    (at ≡ length (text_of es)) × IsNotAscending most es rest

-- the fault of a text that is no old archive: that behind its longest prefix that is one
abbrev pub IsOldArchiveFault : ℕ → List ℕ → ArchiveFault → Type 0
IsOldArchiveFault most text fault =
    (es : List Entry) × (rest : List ℕ) × IsLongestOldArchive most text es rest × (0 < length rest)
    × IsOldFaultBehind most es rest fault
