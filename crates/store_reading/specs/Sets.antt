-- What is written of the set that a folder holds.
use Rattle.std.specs.Prelude.{◌≡◌, ◌↔◌, ◌⊎◌, ℕ, List, ◌++◌, MatchResult, Option, Result}
use Rattle.std.specs.List.{AllByRecursion}
use Rattle.std.specs.Io.KnownBytes.{Appends}
use Rattle.disk.specs.States.{Files}
use Rattle.octet_devices.specs.Device.{InputState}
use Rattle.archive_text.specs.Entries.{Entry, Has, IsAscending, IsBelow}
use Rattle.archive_text.specs.Text.{IsArchive, text_of}
use Rattle.archive_text.specs.declared.limits.TheConstants.{ENTRY_MAX}
use Rattle.archive_sets.specs.declared.range.InRange.{InRange}
use Rattle.archive_join.specs.Holders.{IsHeld}
use Rattle.archive_join.specs.Ranges.{IsOfRange}
use Rattle.record_store.specs.Holdings.{Held}
use Rattle.store_reading.specs.Days.{IsAfter, IsOf}
use Rattle.store_reading.specs.Segments.{AreArchives, DayHas}

-- the ascending list of the entries of the range that a folder holds
pub record IsSetOf (files : Files) (range : InRange) (es : List Entry) : Type 0 where
  pub ascending : IsAscending es
  pub members : (e : Entry) → Has es e ↔ (Held files e × IsOfRange range e)

-- their archive was written
pub record WritesSet (files : Files) (range : InRange) (old new : Option (List ℕ)) : Type 0 where
  pub entries : List Entry
  pub set : IsSetOf files range entries
  pub written : Appends old new (text_of entries)

-- a prefix of their archive was written
pub record WritesPart (files : Files) (range : InRange) (old new : Option (List ℕ)) : Type 0 where
  pub part : List ℕ
  pub written : Appends old new part
  pub begins : (es : List Entry) → IsSetOf files range es → (more : List ℕ) × (text_of es ≡ part ++ more)

-- a segment of the day has the entry, or the day's part of the journals
abbrev pub IsInDay : Files → List ℕ → List Entry → Entry → Type 0
IsInDay files day xs e = Has xs e ⊎ DayHas files day e

-- the inputs of all that a day has
pub record AreOfDay (files : Files) (day : List ℕ) (xs : List Entry) (ds : List InputState) : Type 0 where
  pub entries : List (List Entry)
  pub inputs : AreArchives ds entries
  pub have : (e : Entry) → IsHeld entries e ↔ IsInDay files day xs e

-- a text is that of an archive
abbrev pub IsArchiveText : List ℕ → Type 0
IsArchiveText text = (xs : List Entry) × IsArchive ENTRY_MAX xs × (text ≡ text_of xs)

-- the same of the archive that a text is
abbrev pub AreInputsOf : Files → List ℕ → List ℕ → List InputState → Type 0
AreInputsOf files day text ds = (xs : List Entry) → IsArchive ENTRY_MAX xs → text ≡ text_of xs
    → AreOfDay files day xs ds

-- what is to be written of a day was written
pub record WritesDay (files : Files) (range : InRange) (day : List ℕ) (xs : List Entry) (old new : Option (List ℕ)) :
    Type 0 where
  pub entries : List Entry
  pub ascending : IsAscending entries
  pub members : (e : Entry) → Has entries e ↔ (IsInDay files day xs e × IsOfRange range e)
  pub written : Appends old new (text_of entries)

-- an entry is above all of a list
abbrev pub IsAbove : List Entry → Entry → Type 0
IsAbove es e = (w : Entry) → Has es w → IsBelow w e

-- a prefix of it was written: of the text of its first entries
pub record WritesPartOfDay (files : Files) (range : InRange) (day : List ℕ) (xs : List Entry)
    (old new : Option (List ℕ)) : Type 0 where
  pub entries : List Entry
  pub ascending : IsAscending entries
  pub members : (e : Entry) → Has entries e → IsInDay files day xs e × IsOfRange range e
  pub first : (e : Entry) → IsInDay files day xs e → IsOfRange range e → Has entries e ⊎ IsAbove entries e
  pub part : List ℕ
  pub more : List ℕ
  pub begins : text_of entries ≡ part ++ more
  pub written : Appends old new part

-- a segment of a day up to the last one has it
abbrev pub EarlierHas : Files → Option (List ℕ) → Entry → Type 0
EarlierHas files last e = (day : List ℕ) × ¬ (IsAfter last day) × DayHas files day e

-- of the journals' entries these come up to the last day
pub record WritesDays (files : Files) (range : InRange) (last : Option (List ℕ)) (js : List Entry)
    (old new : Option (List ℕ)) : Type 0 where
  pub entries : List Entry
  pub ascending : IsAscending entries
  pub members : (e : Entry) → Has entries e ↔ ((Has js e ⊎ EarlierHas files last e) × IsOfRange range e)
  pub days : (e : Entry) → Has js e → (day : List ℕ) × IsOf day e × ¬ (IsAfter last day)
  pub written : Appends old new (text_of entries)

-- what becomes of a day, with the entries of the journals that this text is the archive of
abbrev pub DayOutcome : {T E : Type 0} → Result T E → Files → InRange → List ℕ → List ℕ → Option (List ℕ)
    → Option (List ℕ)
    → Type 0
DayOutcome result files range day text old new =
    (xs : List Entry) → IsArchive ENTRY_MAX xs → text ≡ text_of xs → AllByRecursion (IsOf day) xs → MatchResult result
    (λ _. WritesDay files range day xs old new) (λ _. WritesPartOfDay files range day xs old new)
