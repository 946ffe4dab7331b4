-- What is wrong with the octets of files.
use Rattle.std.specs.Prelude.{◌≡◌, ◌≢◌, ◌⊎◌, ℕ, ◌+◌, ◌-◌, ◌<◌, ◌^◌, min, List, [], ◌∷◌, ◌++◌, Some, length}
use Rattle.std.specs.List.{AllByRecursion}
use Rattle.octet_devices.specs.Device.{InputState}
use Rattle.archive_text.specs.Entries.{Entry}
use Rattle.archive_text.specs.Faults.{IsArchiveFault, IsFaultBefore}
use Rattle.archive_text.specs.Positions.{later, position_of}
use Rattle.archive_text.specs.Text.{text_of}
use Rattle.archive_text.specs.declared.fault.ArchiveFault.{ArchiveFault}
use Rattle.archive_text.specs.declared.limits.TheConstants.{ENTRY_MAX}
use Rattle.journal.specs.Batches.{HasBatches, IsBody, batches_text, open_batch}
use Rattle.record_store.specs.Holdings.{AreEntries, IsOfPeriod, IsReadable, IsSealedBatch, IsWholeJournal, SomeIsSealed}
use Rattle.record_store.specs.Holdings.{StaySealed}
use Rattle.record_store.specs.Seals.{HasMore, HidesBatches, Seals}
use Rattle.record_store.specs.declared.journal_damage.JournalDamage.{JournalDamage}
use Rattle.record_store.specs.declared.journal_damage.JournalDamage.TheVariants.{Archive as No_entry, Checksum, Hidden}
use Rattle.record_store.specs.Segments.{IsArchiveOfDay, segment_name}
use Rattle.store_reading.specs.declared.fault.CheckFault.{CheckFault}
use Rattle.store_reading.specs.declared.fault.CheckFault.TheVariants.{Damaged, Input, Memory}
use Rattle.store_reading.specs.declared.fault.FileFault.{FileFault}
use Rattle.store_reading.specs.declared.fault.FileFault.TheVariants.{Archive, Digest, Journal, OtherDay}
use Rattle.store_reading.specs.Segments.{IsNamedBy}
use Rattle.store_reading.specs.Whole.{IsWholeSegment}

-- what a fault says of the damage that it tells
abbrev pub Tells : CheckFault → (FileFault → Type 0) → Type 0
Tells (Damaged fault) claim = claim fault
Tells (Input fault) claim = Unit {0}
Tells Memory claim = Unit {0}

-- what an input has left is so
abbrev pub OfLeft : InputState → (List ℕ → Type 0) → Type 0
OfLeft d P = (file : List ℕ) → d.left ≡ Some file → P file

-- a position in a file, kept at its largest value
abbrev pub position : ℕ → ℕ
position n = min n (2 ^ 64 - 1)

-- ---- segments

-- an entry of another day begins at a position of a segment, behind entries of the period
pub record IsOtherDayAt (period file : List ℕ) (at : ℕ) : Type 0 where
  pub before : List Entry
  pub entry : Entry
  pub behind : List ℕ
  pub parts : file ≡ text_of (before ++ entry ∷ []) ++ behind
  pub days : AllByRecursion (IsOfPeriod period) before
  pub other : ¬ (IsOfPeriod period entry)
  pub place : at ≡ position (length (text_of before))

-- octets are not the archive of entries of a period: there is a fault in them, or an entry of another day
abbrev pub IsArchiveDamage : List ℕ → List ℕ → FileFault → Type 0
IsArchiveDamage period file (Archive fault) = IsArchiveFault ENTRY_MAX file fault
IsArchiveDamage period file (OtherDay at) = IsOtherDayAt period file at
IsArchiveDamage period file Digest = ⊥
IsArchiveDamage period file (Journal damage) = ⊥

-- the octets are damaged so
pub record IsDamagedArchive (period file : List ℕ) (fault : FileFault) : Type 0 where
  pub not_archive : ¬ (IsArchiveOfDay period file)
  pub told : IsArchiveDamage period file fault

-- a segment is not whole: it is no archive of its period, or is one and has the name of another
abbrev pub IsSegmentDamage : List ℕ → List ℕ → List ℕ → FileFault → Type 0
IsSegmentDamage period name file (Archive fault) = IsArchiveDamage period file (Archive fault)
IsSegmentDamage period name file (OtherDay at) = IsArchiveDamage period file (OtherDay at)
IsSegmentDamage period name file Digest = IsArchiveOfDay period file × (name ≢ segment_name period file)
IsSegmentDamage period name file (Journal damage) = ⊥

-- the segment of a period that has a name is damaged so
pub record IsDamagedSegment (period name file : List ℕ) (fault : FileFault) : Type 0 where
  pub not_whole : ¬ (IsWholeSegment period name file)
  pub told : IsSegmentDamage period name file fault

-- another digest is told of a segment whose name has not this one
pub record IsOtherDigest (period name hex : List ℕ) (fault : FileFault) : Type 0 where
  pub told : fault ≡ Digest
  pub other : ¬ (IsNamedBy period name hex)

-- ---- journals

-- a text begins with no entry, and the fault is told so many octets later
pub record IsFirstFault (text : List ℕ) (at : ℕ) (told : FileFault) : Type 0 where
  pub fault : ArchiveFault
  pub is : IsFaultBefore ENTRY_MAX text fault
  pub later_fault : ArchiveFault
  pub told_is : told ≡ Journal (No_entry later_fault)
  pub place : at + position_of fault < 2 ^ 64 → later_fault ≡ later at fault

-- the rest of a batch is no seal of the text before it, which is told where the rest begins
pub record IsOtherSeal (text rest : List ℕ) (offset : ℕ) (told : FileFault) : Type 0 where
  pub other : ¬ (Seals text rest)
  pub told_is : told ≡ Journal (Checksum (position (offset + length text)))

-- a batch, which begins at an offset of its file, is no sequence of entries: behind these ones comes a fault
pub record IsBatchFault (body : List ℕ) (offset : ℕ) (told : ArchiveFault) : Type 0 where
  pub entries : List Entry
  pub rest : List ℕ
  pub parts : body ≡ text_of entries ++ rest
  pub before : AreEntries entries (text_of entries)
  pub fault : ArchiveFault
  pub is : IsFaultBefore ENTRY_MAX rest fault
  pub place : told ≡ later (offset + length (text_of entries)) fault

-- or something is behind its entries that is no seal of theirs
pub record IsSealFault (body : List ℕ) (offset at : ℕ) : Type 0 where
  pub entries : List Entry
  pub rest : List ℕ
  pub parts : body ≡ text_of entries ++ rest
  pub before : AreEntries entries (text_of entries)
  pub over : ¬ (HasMore rest)
  pub other : ¬ (Seals (text_of entries) rest)
  pub place : at ≡ offset + length (text_of entries)

-- so a batch can be damaged
abbrev pub IsBatchDamage : List ℕ → ℕ → JournalDamage → Type 0
IsBatchDamage body offset (No_entry fault) = IsBatchFault body offset fault
IsBatchDamage body offset (Checksum at) = IsSealFault body offset at
IsBatchDamage body offset (Hidden at) = ⊥

-- the fault of the first batch of a journal that is damaged
pub record IsJournalFault (file : List ℕ) (told : JournalDamage) : Type 0 where
  pub bodies : List (List ℕ)
  pub readable : AllByRecursion IsReadable bodies
  pub body : List ℕ
  pub behind : List ℕ
  pub fits : IsBody body
  pub parts : file ≡ batches_text bodies ++ open_batch body ++ behind
  pub offset : ℕ
  pub begins : offset + length body + length behind ≡ length file
  pub fault : IsBatchDamage body offset told

-- what is behind the batches of a journal hides others, from a position on
pub record IsHiddenAt (file : List ℕ) (at : ℕ) : Type 0 where
  pub bodies : List (List ℕ)
  pub batches : HasBatches file bodies
  pub hides : HidesBatches batches.tail
  pub place : at ≡ length (batches_text bodies)

-- it hides none
pub record HidesNothing (file : List ℕ) : Type 0 where
  pub bodies : List (List ℕ)
  pub batches : HasBatches file bodies
  pub hides_none : ¬ (HidesBatches batches.tail)

-- each batch of a journal is one of entries, and those behind a sealed one are sealed
pub record AreReadable (file : List ℕ) : Type 0 where
  pub bodies : List (List ℕ)
  pub batches : HasBatches file bodies
  pub readable : AllByRecursion IsReadable bodies
  pub stay_sealed : StaySealed bodies

-- a batch of a journal is one of entries without a seal, where one has to be, since one before has its own: told where
-- the batch ends
pub record IsUnsealedAt (file : List ℕ) (at : ℕ) : Type 0 where
  pub bodies : List (List ℕ)
  pub readable : AllByRecursion IsReadable bodies
  pub body : List ℕ
  pub behind : List ℕ
  pub fits : IsBody body
  pub parts : file ≡ batches_text bodies ++ open_batch body ++ behind
  pub before : SomeIsSealed bodies
  pub plain : IsReadable body
  pub unsealed : ¬ (IsSealedBatch body)
  pub place : at + length behind ≡ length file

-- so a journal can be damaged
abbrev pub IsDamageIn : List ℕ → JournalDamage → Type 0
IsDamageIn file (No_entry fault) = IsJournalFault file (No_entry fault)
IsDamageIn file (Checksum at) = IsJournalFault file (Checksum at) ⊎ IsUnsealedAt file at
IsDamageIn file (Hidden at) = IsHiddenAt file at

abbrev pub IsJournalDamage : List ℕ → FileFault → Type 0
IsJournalDamage file (Archive fault) = ⊥
IsJournalDamage file (OtherDay at) = ⊥
IsJournalDamage file Digest = ⊥
IsJournalDamage file (Journal damage) = IsDamageIn file damage

-- the fault that is told is that of a batch
abbrev pub IsBatchFileDamage : List ℕ → ℕ → FileFault → Type 0
IsBatchFileDamage body offset (Archive fault) = ⊥
IsBatchFileDamage body offset (OtherDay at) = ⊥
IsBatchFileDamage body offset Digest = ⊥
IsBatchFileDamage body offset (Journal damage) = IsBatchDamage body offset damage

-- a batch, which begins at an offset of its file, is damaged so
pub record IsDamagedBatch (body : List ℕ) (offset : ℕ) (fault : FileFault) : Type 0 where
  pub not_readable : ¬ (IsReadable body)
  pub told : offset + length body < 2 ^ 64 → IsBatchFileDamage body offset fault

-- the octets of a journal are damaged so
pub record IsDamagedJournal (file : List ℕ) (fault : FileFault) : Type 0 where
  pub not_whole : ¬ (IsWholeJournal file)
  pub told : IsJournalDamage file fault
