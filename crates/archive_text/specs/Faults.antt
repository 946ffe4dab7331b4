-- Why a text is no archive.
use Rattle.std.specs.Prelude.{◌≡◌, ℕ, ◌+◌, ◌<◌, ◌≤◌, List, [], ◌∷◌, ◌++◌, length, ◌⊎◌}
use Rattle.octet_language.specs.Language.{AnyOf, IsFaultOffset, NoPrefix}
use Rattle.octet_language.specs.Reading.{Follows}
use Rattle.syslog_frame.specs.Frames.{CanCarry, framed}
use Rattle.syslog_frame.specs.MsgLen.{MsgLen}
use Rattle.syslog_frame.specs.declared.framing.Framing.TheVariants.{Counted}
use Rattle.syslog_reading.specs.Faults.{FaultOf}
use Rattle.syslog_reading.specs.WellFormed.{WellFormed}
use Rattle.archive_text.specs.Entries.{Entry, IsAscending, IsEntry}
use Rattle.archive_text.specs.Text.{IsArchive, text_of}
use Rattle.archive_text.specs.declared.fault.ArchiveFault.{ArchiveFault}
use Rattle.archive_text.specs.declared.fault.ArchiveFault.TheVariants.{BadFrame, EntryTooLong, BadEntry, NotCanonical}
use Rattle.archive_text.specs.declared.fault.ArchiveFault.TheVariants.{NotAscending}
use Rattle.archive_text.specs.declared.fault.EntryFault.{EntryFault}
use Rattle.archive_text.specs.declared.fault.EntryFault.TheVariants.{Bad, NotCanonical as entry_NotCanonical}

-- the octets are the canonical form of no record
abbrev pub IsNoEntry : List ℕ → Type 0
IsNoEntry b = (e : Entry) → IsEntry e → ¬ (e.octets ≡ b)

-- the octets are no record, for this fault; or a record that is not written canonically
abbrev pub IsEntryFault : List ℕ → EntryFault → Type 0
IsEntryFault b (Bad fault) = FaultOf b fault × ¬ (AnyOf WellFormed b)
IsEntryFault b entry_NotCanonical = AnyOf WellFormed b × IsNoEntry b

-- the text begins with these counted octets, which the limit allows
abbrev pub BeginsWithOctets : ℕ → List ℕ → List ℕ → Type 0
BeginsWithOctets most text b =
    CanCarry Counted b × (length b ≤ most) × ((rest : List ℕ) × (text ≡ framed Counted b ++ rest))

-- these counted octets, which the limit allows, come first, and then the rest
pub record IsCountedFirst (most : ℕ) (text b rest : List ℕ) : Type 0 where
  pub carries : CanCarry Counted b
  pub fits : length b ≤ most
  pub parts : text ≡ framed Counted b ++ rest

-- the first octet with which no MSG-LEN and space goes on; or the length, where the entry is cut
abbrev pub IsBadFrame : ℕ → List ℕ → ℕ → Type 0
IsBadFrame most text at =
    (NoPrefix (AnyOf MsgLen) text × IsFaultOffset (AnyOf MsgLen) text at)
    ⊎ ((count : ℕ) × (behind : List ℕ) × Follows (MsgLen count) text behind
    × (count ≤ most) × (length behind < count) × (at ≡ length text))

-- a count above the limit
abbrev pub IsTooLong : ℕ → List ℕ → Type 0
IsTooLong most text =
    (count : ℕ) × (behind : List ℕ) × Follows (MsgLen count) text behind × (most < count)

-- why a text begins with no counted octets
abbrev pub IsCountFault : ℕ → List ℕ → ArchiveFault → Type 0
IsCountFault most text (BadFrame at) = IsBadFrame most text at
IsCountFault most text (EntryTooLong at) = (at ≡ 0) × IsTooLong most text
IsCountFault most text (BadEntry at fault) = ⊥
IsCountFault most text (NotCanonical at) = ⊥
IsCountFault most text (NotAscending at) = ⊥

-- why a text begins with no entry: the first cause that holds
abbrev pub IsFaultBefore : ℕ → List ℕ → ArchiveFault → Type 0
IsFaultBefore most text (BadFrame at) = IsBadFrame most text at
IsFaultBefore most text (EntryTooLong at) = (at ≡ 0) × IsTooLong most text
IsFaultBefore most text (BadEntry at fault) =
    (at ≡ 0) × ((b : List ℕ) × BeginsWithOctets most text b × IsEntryFault b (Bad fault))
IsFaultBefore most text (NotCanonical at) =
    (at ≡ 0) × ((b : List ℕ) × BeginsWithOctets most text b × IsEntryFault b entry_NotCanonical)
IsFaultBefore most text (NotAscending at) = ⊥

-- the longest prefix of a text that is an archive: these entries, and what follows them
pub record IsLongestArchive (most : ℕ) (text : List ℕ) (es : List Entry) (rest : List ℕ) : Type 0 where
  pub archive : IsArchive most es
  pub parts : text ≡ text_of es ++ rest
  pub longest : (fs : List Entry) (s : List ℕ) → IsArchive most fs → text ≡ text_of fs ++ s
      → length (text_of fs) ≤ length (text_of es)

-- the next entry is not above those before it
abbrev pub IsNotAscending : ℕ → List Entry → List ℕ → Type 0
IsNotAscending most es rest =
    (e : Entry) × IsEntry e × BeginsWithOctets most rest e.octets × ¬ (IsAscending (es ++ e ∷ []))

-- why a text goes on behind these entries with no further one, positions counted from its start
abbrev pub IsFaultBehind : ℕ → List Entry → List ℕ → ArchiveFault → Type 0
IsFaultBehind most es rest (BadFrame at) =
    (n : ℕ) × IsBadFrame most rest n × (at ≡ length (text_of es) + n)
IsFaultBehind most es rest (EntryTooLong at) = (at ≡ length (text_of es)) × IsTooLong most rest
IsFaultBehind most es rest (BadEntry at fault) =
    (at ≡ length (text_of es)) × IsFaultBefore most rest (BadEntry 0 fault)
IsFaultBehind most es rest (NotCanonical at) =
    (at ≡ length (text_of es)) × IsFaultBefore most rest (NotCanonical 0)
IsFaultBehind most es rest (NotAscending at) =
    (at ≡ length (text_of es)) × IsNotAscending most es rest

-- the fault of a text that is no archive: that behind its longest prefix that is one
abbrev pub IsArchiveFault : ℕ → List ℕ → ArchiveFault → Type 0
IsArchiveFault most text fault =
    (es : List Entry) × (rest : List ℕ) × IsLongestArchive most text es rest × (0 < length rest)
    × IsFaultBehind most es rest fault
