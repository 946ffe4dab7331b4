-- An addition under way.
use Rattle.std.specs.Prelude.{◌≡◌, ℕ, ◌*◌, ◌+◌, ◌^◌, ◌<◌, ◌≤◌, List, [], ◌∷◌, ◌++◌, length}
use Rattle.disk.specs.States.{State}
use Rattle.octet_devices.specs.Device.{InputState}
use Rattle.archive_pages.specs.Paged.{at_most_all, entries_in}
use Rattle.archive_streams.specs.Entries.{IsBegun, IsOpen, IsWhole, Reads, current, still_to_come}
use Rattle.archive_text.specs.Entries.{Entry, IsEntry}
use Rattle.archive_text.specs.Text.{entry_text, text_of}
use Rattle.archive_text.specs.declared.limits.TheConstants.{ENTRY_MAX}
use Rattle.journal.specs.Journals.{IsSound}
use Rattle.record_store.specs.Crashes.{HeldApart}
use Rattle.record_store.specs.Segments.{GrowsBeside}
use Rattle.durable_store.specs.Recovery.{Adds}
use Rattle.durable_store.specs.Segments.{GainsOnly, octets_of}
use Rattle.durable_store.specs.declared.draft.DraftName.TheVariants.{Addition as Addition_draft}
use Rattle.store_addition.specs.Additions.{Counts, IsOfReading, IsReadUpTo}
use Rattle.store_addition.specs.declared.adding.Adding.{Adding}
use Rattle.store_addition.specs.declared.adding.TheConstants.{PIECE_OCTETS}
use Rattle.store_addition.specs.declared.fault.AddFault.{AddFault}
use Rattle.store_addition.specs.declared.fault.AddFault.TheVariants.{Input, Segment, Memory}

-- nothing was read
pub record IsFresh (s : Adding) : Type 0 where
  pub unclosed : IsOpen s.entries
  pub none_read : (d : InputState) → Reads s.entries d d []
  pub none_waits : entries_in s.piece ≡ []
  pub no_octets : s.octets ≡ 0
  pub none_gathered : Counts s.gathered []
  pub none_added : Counts s.added []

-- these entries are on the disk, and those of the piece behind them are not
pub record IsCounted (s : Adding) (done : List Entry) : Type 0 where
  pub adds : Counts s.added done
  pub gathers : Counts s.gathered (done ++ entries_in s.piece)
  pub size : s.octets ≡ length (text_of (entries_in s.piece))

-- they are what was read
pub record Gathering (s : Adding) (d e : InputState) (done : List Entry) : Type 0 where
  pub reads : Reads s.entries d e (done ++ entries_in s.piece)
  pub counted : IsCounted s done

-- and as many octets wait as are written at once
pub record IsPieceOf (s : Adding) (d e : InputState) (done : List Entry) : Type 0 where
  pub gathering : Gathering s d e done
  pub full : PIECE_OCTETS ≤ s.octets

-- one entry more was read
pub record Looking (s : Adding) (d e : InputState) (done : List Entry) : Type 0 where
  pub reads : Reads s.entries d e ((done ++ entries_in s.piece) ++ current s.entries ∷ [])
  pub counted : IsCounted s done

-- the archive was read to its end
pub record WholeRead (s : Adding) (d e : InputState) (done : List Entry) : Type 0 where
  pub whole : IsWhole d e (done ++ entries_in s.piece)
  pub counted : IsCounted s done

-- no fault of a segment
abbrev pub IsNoSegment : AddFault → Type 0
IsNoSegment (Input fault) = Unit {0}
IsNoSegment (Segment fault) = ⊥
IsNoSegment Memory = Unit {0}

-- a fault stopped it
pub record Halted (fault : AddFault) (s : Adding) (d e : InputState) (done : List Entry) : Type 0 where
  pub behind : List Entry
  pub read : IsReadUpTo fault d e ((done ++ entries_in s.piece) ++ behind)
  pub all : IsOfReading fault → behind ≡ []
  pub kind : IsNoSegment fault
  pub counted : IsCounted s done

-- whatever came, these entries were read, and those of the piece wait
pub record Began (s : Adding) (d e : InputState) (done : List Entry) : Type 0 where
  pub behind : List Entry
  pub read : IsBegun d e ((done ++ entries_in s.piece) ++ behind)
  pub counted : IsCounted s done

-- some were read from a reader that is here now
pub record HasReader (s : Adding) (e : InputState) : Type 0 where
  pub first : InputState
  pub done : List Entry
  pub gathering : Gathering s first e done

-- ---- the steps

-- the entry that was read last is one
pub record IsNext (s : Adding) : Type 0 where
  pub is : IsEntry (current s.entries)
  pub fits : length (current s.entries).octets ≤ ENTRY_MAX

-- what was gathered is as it was
pub record KeepsGathered (s t : Adding) : Type 0 where
  pub same_piece : entries_in t.piece ≡ entries_in s.piece
  pub same_size : t.octets ≡ s.octets
  pub same_gathered : t.gathered ≡ s.gathered
  pub same_added : t.added ≡ s.added

-- the entry that was read last is in the piece
pub record Takes (s t : Adding) : Type 0 where
  pub adds : Adds (entries_in s.piece) (entries_in t.piece) (λ e. current s.entries ≡ e)
  pub size : t.octets ≡ at_most_all (s.octets + at_most_all (length (entry_text (current s.entries))))
  pub number : t.gathered.entries ≡ at_most_all (s.gathered.entries + 1)
  pub latest : t.gathered.last ≡ (current s.entries).instant
  pub same_added : t.added ≡ s.added

-- more may be read, and if there was no whole piece, some was
pub record IsRead (s t : Adding) : Type 0 where
  pub unclosed : IsOpen t.entries
  pub nearer : s.octets < PIECE_OCTETS → still_to_come t.entries < still_to_come s.entries

-- the piece is on the disk, and the next one is empty
pub record Writes (s t : Adding) : Type 0 where
  pub same_entries : t.entries ≡ s.entries
  pub same_gathered : t.gathered ≡ s.gathered
  pub all_added : t.added ≡ s.gathered
  pub none_waits : entries_in t.piece ≡ []
  pub no_octets : t.octets ≡ 0

-- the piece is a whole one and an entry more at most, which has no more octets than this
abbrev pub IsInRoom : Adding → Type 0
IsInRoom s = s.octets ≤ PIECE_OCTETS + 2 ^ 21

-- ---- with the disk

-- no sync has failed, segments hold these entries, and nothing else came, in whole pieces
pub record OnDisk (tells : Type 0) (start now : State) (done : List Entry) : Type 0 where
  pub sound : tells → IsSound start → IsSound now
  pub held : tells → IsSound start → HeldApart now done
  pub gains : tells → IsSound start → GainsOnly start now (octets_of Addition_draft) done
  pub pieces : ℕ
  pub grow : tells → IsSound start → GrowsBeside (65 * pieces) start now
  pub whole : pieces * PIECE_OCTETS ≤ length (text_of done)

pub record UnderWay (tells : Type 0) (s : Adding) (d e : InputState) (start now : State) : Type 0 where
  pub done : List Entry
  pub gathering : Gathering s d e done
  pub disk : OnDisk tells start now done
