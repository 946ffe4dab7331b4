-- What a folder holds after a crash.
use Rattle.std.specs.Prelude.{◌≡◌, ℕ, false, List, [], Option, None, Some}
use Rattle.disk.specs.Files.{settled}
use Rattle.disk.specs.States.{Entry as DiskEntry, Files, NameMayLeave, State}
use Rattle.journal.specs.Journals.{only_file}
use Rattle.archive_text.specs.Entries.{Entry, Has}
use Rattle.record_store.specs.Holdings.{Held, HeldAt}
use Rattle.record_store.specs.Names.{Counts, IsSegment}

-- what a crash may leave under the names that count, whatever is under others
abbrev pub MayLeaveCounted : State → Files → Type 0
MayLeaveCounted state files = (name : List ℕ) → Counts name → NameMayLeave (state.entries name) (files name)

-- Whatever a crash leaves now, it holds all that is committed, and nothing that was not received.
pub record Keeps (state : State) (committed received : List Entry) : Type 0 where
  pub nothing_lost : (files : Files) → MayLeaveCounted state files → (e : Entry) → Has committed e → Held files e
  pub nothing_forged : (files : Files) → MayLeaveCounted state files → (e : Entry) → Held files e → Has received e

-- a segment holds the entry, whatever a crash leaves of it
pub record InSegment (state : State) (e : Entry) : Type 0 where
  pub day : List ℕ
  pub name : List ℕ
  pub segment : IsSegment day name
  pub holds : (octets : Option (List ℕ)) → NameMayLeave (state.entries name) octets → HeldAt name octets e

-- so it is of each of these entries
abbrev pub HeldApart : State → List Entry → Type 0
HeldApart state es = (e : Entry) → Has es e → InSegment state e

-- a file that is on the disk, or none that ever was
abbrev pub resting : Option (List ℕ) → DiskEntry
resting None = record { now = None; past = []; moved = false }
resting (Some octets) = only_file (settled octets)

-- under the names that count are these files, all on the disk, and no sync has failed
pub record Rests (state : State) (files : Files) : Type 0 where
  pub entries : (name : List ℕ) → Counts name → state.entries name ≡ resting (files name)
  pub sound : state.lost ≡ false
