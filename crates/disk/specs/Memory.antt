-- What a disk in memory holds.
use Rattle.std.specs.Prelude.{◌≡◌, ◌≢◌, ℕ, ◌<◌, false, if◌then◌else◌, bytes_eq, List, [], ◌∷◌, length, slice_index_or}
use Rattle.std.specs.Prelude.{take, map, Option, Some, None, IsNone, IsSome, Result, MatchResult, IsErrOf}
use Rattle.std.specs.Option.{option_map}
use Rattle.disk.specs.Files.{File, settled}
use Rattle.disk.specs.States.{Entry, State, NameMayLeave, kept, retired}
use Rattle.disk.specs.declared.fault.DiskFault.{DiskFault}
use Rattle.disk.specs.declared.fault.DiskFault.TheVariants.{Missing, Exists, Full, Failed}
use Rattle.disk.specs.declared.memory_file.MemoryFile.{MemoryFile}
use Rattle.disk.specs.declared.memory.MemoryEntry.{MemoryEntry}
use Rattle.disk.specs.declared.memory.MemoryDisk.{MemoryDisk}

abbrev pub file_of : MemoryFile → File
file_of f = record { shown = f.shown.items; synced = f.synced; longest = f.longest; rewritten = f.rewritten.items }

abbrev pub entry_of : MemoryEntry → Entry
entry_of e = record { now = option_map file_of e.now; past = map (option_map file_of) e.past.items; moved = e.moved }

-- nothing was ever under the name
abbrev pub no_entry : Entry
no_entry = record { now = None; past = []; moved = false }

-- the first entry of a name
abbrev pub lookup : List MemoryEntry → List ℕ → Entry
lookup [] name = no_entry
lookup (e ∷ entries) name = if bytes_eq e.name name then entry_of e else lookup entries name

abbrev pub state_of : List MemoryEntry → State
state_of entries = record { entries = lookup entries; lost = false }

abbrev pub memory_state : MemoryDisk → State
memory_state d = state_of d.entries.items

-- the syncs that it was asked for
abbrev pub syncs_of : MemoryDisk → ℕ
syncs_of d = d.syncs

-- none of the entries has the name
abbrev pub IsAbsent : List ℕ → List MemoryEntry → Type 0
IsAbsent name [] = Unit {0}
IsAbsent name (e ∷ entries) = (e.name ≢ name) × IsAbsent name entries

-- the first entry of a name is the i-th
pub record IsFirst (entries : List MemoryEntry) (name : List ℕ) (i : ℕ) : Type 0 where
  pub within : i < length entries
  pub before : IsAbsent name (take i entries)
  pub here : (d : MemoryEntry) → (slice_index_or entries i d).name ≡ name

-- the disk itself does not fail
pub record NeverFails {T : Type 0} (result : Result T DiskFault) : Type 0 where
  pub not_failed : IsErrOf result Failed → ⊥
  pub not_full : IsErrOf result Full → ⊥

-- the file of an entry is changed, or nothing happens
abbrev pub ChangesFileOf : {T : Type 0} → Entry → Entry → (File → File) → Result T DiskFault → Type 0
ChangesFileOf old new change result = MatchResult result
    (λ _. (file : File) × (old.now ≡ Some file) × (new ≡ record old { now = Some (change file) }))
    (λ fault. (new ≡ old) × (fault ≡ Missing → IsNone old.now) × (fault ≢ Exists))

abbrev pub MakesFile : {T : Type 0} → Entry → Entry → Result T DiskFault → Type 0
MakesFile old new result = MatchResult result
    (λ _. (old.now ≡ None) × (new ≡ record (retired old) { now = Some (settled []) }))
    (λ fault. (new ≡ old) × (fault ≡ Exists → IsSome old.now) × (fault ≢ Missing))

abbrev pub RemovesFileOf : {T : Type 0} → Entry → Entry → Result T DiskFault → Type 0
RemovesFileOf old new result = MatchResult result
    (λ _. IsSome old.now × (new ≡ retired old))
    (λ fault. (new ≡ old) × (fault ≡ Missing → IsNone old.now) × (fault ≢ Exists))

-- the folder was synced
abbrev pub AreKept : List MemoryEntry → List MemoryEntry → Type 0
AreKept [] new = new ≡ []
AreKept (e ∷ old) [] = ⊥
AreKept (e ∷ old) (f ∷ new) = (f.name ≡ e.name) × (entry_of f ≡ kept (entry_of e)) × AreKept old new

-- the octets under a name as a read shows them
abbrev pub shown_now : Entry → Option (List ℕ)
shown_now entry = option_map (λ file. file.shown) entry.now

-- what a crash may leave under a name is there, all of it on the disk
pub record IsLeft (old new : Entry) : Type 0 where
  pub left : NameMayLeave old (shown_now new)
  pub settled_is : new ≡ record { now = option_map settled (shown_now new); past = []; moved = false }

-- the same of each entry
abbrev pub AreLeft : List MemoryEntry → List MemoryEntry → Type 0
AreLeft [] new = new ≡ []
AreLeft (e ∷ old) [] = ⊥
AreLeft (e ∷ old) (f ∷ new) = (f.name ≡ e.name) × IsLeft (entry_of e) (entry_of f) × AreLeft old new
