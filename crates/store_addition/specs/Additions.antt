-- An archive that is put into a store.
use Rattle.std.specs.Prelude.{◌≡◌, ◌⊎◌, ℕ, ◌*◌, ◌+◌, ◌≤◌, List, [], ◌∷◌, ◌++◌, None, length}
use Rattle.disk.specs.States.{State}
use Rattle.octet_devices.specs.Device.{InputState, count_on}
use Rattle.archive_text.specs.Entries.{Entry}
use Rattle.archive_text.specs.Text.{text_of}
use Rattle.archive_streams.specs.Entries.{IsBegun, IsCutShort, IsWhole}
use Rattle.archive_streams.specs.declared.fault.InputFault.TheVariants.{Device, Endless}
use Rattle.archive_streams.specs.declared.fault.SideFault.TheVariants.{Archive, Input as Of_reader}
use Rattle.journal.specs.Journals.{IsSound}
use Rattle.record_store.specs.Crashes.{HeldApart, Keeps}
use Rattle.record_store.specs.Segments.{GrowsBeside, OthersSettle}
use Rattle.durable_store.specs.Causes.{IsKeepingCause}
use Rattle.durable_store.specs.Segments.{octets_of}
use Rattle.durable_store.specs.declared.draft.DraftName.TheVariants.{Addition as Addition_draft}
use Rattle.store_addition.specs.declared.adding.TheConstants.{PIECE_OCTETS}
use Rattle.store_addition.specs.declared.addition.Addition.{Addition}
use Rattle.store_addition.specs.declared.fault.AddFault.{AddFault}
use Rattle.store_addition.specs.declared.fault.AddFault.TheVariants.{Input, Segment, Memory}

-- the number of these entries, and the instant of the last of them
pub record Counts (added : Addition) (es : List Entry) : Type 0 where
  pub number : added.entries ≡ length es
  pub none : es ≡ [] → added.last ≡ None
  pub latest : (before : List Entry) (e : Entry) → es ≡ before ++ e ∷ [] → added.last ≡ e.instant

-- Segments hold each of the entries that are done, whatever a crash leaves. A folder that kept what was committed, and
-- nothing that was not received, keeps these too, and nothing that was neither received nor read. Segments hold what
-- they held; each other file but the draft of the addition, such as a journal and the draft of a server, is as it was,
-- but that it may be on the disk now.
pub record TakesIn (old new : State) (done read : List Entry) : Type 0 where
  pub held : HeldApart new done
  pub keeps : (committed received : List Entry) → Keeps old committed received
      → Keeps new (committed ++ done) (received ++ read)
  pub apart : OthersSettle old new (octets_of Addition_draft)
  pub still : (others : List Entry) → HeldApart old others → HeldApart new others

-- a read shows each segment and each journal that it showed, and of so many octets at most 65 other segments for each
-- piece of them, whole or begun
pub record GrowsByPieces (octets : ℕ) (old new : State) : Type 0 where
  pub pieces : ℕ
  pub grow : GrowsBeside (65 * pieces) old new
  pub few : pieces * PIECE_OCTETS ≤ octets + PIECE_OCTETS

-- all that a reader gave is an archive, of which each entry is on the disk
pub record AddsWhole (tells : Type 0) (d e : InputState) (old new : State) (added : Addition) : Type 0 where
  pub entries : List Entry
  pub whole : IsWhole d e entries
  pub counts : Counts added entries
  pub takes : tells → IsSound old → TakesIn old new entries entries
  pub grows : tells → IsSound old → GrowsByPieces (length (text_of entries)) old new

-- the reading stopped
abbrev pub IsOfReading : AddFault → Type 0
IsOfReading (Input fault) = Unit {0}
IsOfReading (Segment fault) = ⊥
IsOfReading Memory = ⊥

-- what was read: where the reading stopped, the entries of the longest prefix of what was given that is an archive
abbrev pub IsReadUpTo : AddFault → InputState → InputState → List Entry → Type 0
IsReadUpTo (Input fault) d e es = IsCutShort fault d e es
IsReadUpTo (Segment fault) d e es = IsBegun d e es
IsReadUpTo Memory d e es = IsBegun d e es

-- what has to be so where an archive is not added whole; want of memory needs no cause, and that of a fault of the
-- reading is in what was read
abbrev pub IsAddingCause : Type 0 → Type 0 → State → State → AddFault → Type 0
IsAddingCause tells failed old new (Input fault) = Unit {0}
IsAddingCause tells failed old new (Segment fault) = IsKeepingCause tells failed (IsSound old) new fault
IsAddingCause tells failed old new Memory = Unit {0}

-- Of the entries that were read the first are on the disk, and were counted: all of them where the reading stopped.
pub record AddsPart (tells failed : Type 0) (d e : InputState) (old new : State) (added : Addition) (fault : AddFault) :
    Type 0 where
  pub done : List Entry
  pub behind : List Entry
  pub read : IsReadUpTo fault d e (done ++ behind)
  pub all : IsOfReading fault → behind ≡ []
  pub counts : Counts added done
  pub takes : tells → IsSound old → TakesIn old new done (done ++ behind)
  pub grows : tells → IsSound old → GrowsByPieces (length (text_of (done ++ behind))) old new
  pub cause : IsAddingCause tells failed old new fault

-- the reader failed where it is told, or where the disk failed then as what was read was written; else it did not
abbrev pub FailuresAt : AddFault → ℕ → ℕ → Type 0
FailuresAt (Input (Archive fault)) old new = new ≡ old
FailuresAt (Input (Of_reader Device)) old new = new ≡ count_on old
FailuresAt (Input (Of_reader Endless)) old new = new ≡ old
FailuresAt (Segment fault) old new = (new ≡ old) ⊎ (new ≡ count_on old)
FailuresAt Memory old new = new ≡ old
