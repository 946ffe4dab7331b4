-- What each call does to the state of a disk.
use Rattle.std.specs.Prelude.{◌≡◌, ◌≢◌, ◌⊎◌, ◌↔◌, ℕ, ◌+◌, ◌<◌, ◌≤◌, true, false, if◌then◌else◌, List, [], Contains, length}
use Rattle.std.specs.Prelude.{take, drop, Some, None, IsSome, IsNone, IsSomeAnd, Result, MatchResult, IfOk, IsErrOf}
use Rattle.disk.specs.Files.{File, settled, appended, appended_in_part, overwritten, cut_to}
use Rattle.disk.specs.States.{Entry, State, retired, kept}
use Rattle.disk.specs.declared.fault.DiskFault.{DiskFault}
use Rattle.disk.specs.declared.fault.DiskFault.TheVariants.{Missing, Exists, Full, Failed, Memory}

pub record IsUnchanged (old new : State) : Type 0 where
  pub entries : (name : List ℕ) → new.entries name ≡ old.entries name
  pub lost : new.lost ≡ old.lost

-- one name has another entry, and nothing else changes
pub record ChangesEntry (old new : State) (name : List ℕ) (entry : Entry) : Type 0 where
  pub here : new.entries name ≡ entry
  pub others : (other : List ℕ) → other ≢ name → new.entries other ≡ old.entries other
  pub lost : new.lost ≡ old.lost

-- the file under a name is changed, and nothing else
pub record ChangesFile (old new : State) (name : List ℕ) (change : File → File) : Type 0 where
  pub file : File
  pub was : (old.entries name).now ≡ Some file
  pub entry : ChangesEntry old new name (record (old.entries name) { now = Some (change file) })

-- a call on the file of a name failed: nothing was done, or this; there is no file where the fault says so, and it never
-- says that there is one
pub record FailsAt (old new : State) (name : List ℕ) (fault : DiskFault) (part : Type 0) : Type 0 where
  pub done : IsUnchanged old new ⊎ part
  pub missing : fault ≡ Missing → IsNone (old.entries name).now
  pub not_exists : fault ≢ Exists

-- octets are written at the end of a file
abbrev pub Appends : {T : Type 0} → State → State → List ℕ → List ℕ → Result T DiskFault → Type 0
Appends old new name octets result = MatchResult result
    (λ _. ChangesFile old new name (appended octets))
    (λ fault. FailsAt old new name fault ((n : ℕ) × ChangesFile old new name (appended_in_part n octets)))

-- one octet of a file is written over
abbrev pub Overwrites : {T : Type 0} → State → State → List ℕ → ℕ → ℕ → Result T DiskFault → Type 0
Overwrites old new name at octet result = MatchResult result
    (λ _. ChangesFile old new name (overwritten at octet))
    (λ fault. FailsAt old new name fault ((shown : ℕ) × ChangesFile old new name (overwritten at shown)))

-- a file is cut to a length
abbrev pub Cuts : {T : Type 0} → State → State → List ℕ → ℕ → Result T DiskFault → Type 0
Cuts old new name len result = MatchResult result
    (λ _. ChangesFile old new name (cut_to len))
    (λ fault. FailsAt old new name fault (ChangesFile old new name (cut_to len)))

-- a sync failed
pub record Loses (old new : State) : Type 0 where
  pub entries : (name : List ℕ) → new.entries name ≡ old.entries name
  pub lost : new.lost ≡ true

-- where there was no room for it, on the disk or in memory, a call has changed nothing
abbrev pub KeepsIfShort : {T : Type 0} → State → State → Result T DiskFault → Type 0
KeepsIfShort old new result = IsErrOf result Full ⊎ IsErrOf result Memory → IsUnchanged old new

-- All of a file is on the disk, unless a sync has failed before.
abbrev pub Syncs : {T : Type 0} → State → State → List ℕ → Result T DiskFault → Type 0
Syncs old new name result = MatchResult result
    (λ _. ChangesFile old new name (λ file. if old.lost then file else settled file.shown))
    (λ fault. FailsAt old new name fault (Loses old new))

-- an empty file is made under a name that has none
pub record CreatesFile (old new : State) (name : List ℕ) : Type 0 where
  pub none : (old.entries name).now ≡ None
  pub entry : ChangesEntry old new name (record (retired (old.entries name)) { now = Some (settled []) })

abbrev pub Creates : {T : Type 0} → State → State → List ℕ → Result T DiskFault → Type 0
Creates old new name result = MatchResult result
    (λ _. CreatesFile old new name)
    (λ fault. (IsUnchanged old new ⊎ CreatesFile old new name) × (fault ≡ Exists → IsSome (old.entries name).now)
    × (fault ≢ Missing))

-- the file under a name is removed
pub record RemovesFile (old new : State) (name : List ℕ) : Type 0 where
  pub some : IsSome (old.entries name).now
  pub entry : ChangesEntry old new name (retired (old.entries name))

abbrev pub Removes : {T : Type 0} → State → State → List ℕ → Result T DiskFault → Type 0
Removes old new name result = MatchResult result
    (λ _. RemovesFile old new name)
    (λ fault. FailsAt old new name fault (RemovesFile old new name))

-- the file under `from` is under `to` in place of what was there
pub record RenamesFile (old new : State) (from to : List ℕ) : Type 0 where
  pub some : IsSome (old.entries from).now
  pub source : new.entries from ≡ record (old.entries from) { now = None; moved = true }
  pub target : new.entries to ≡ record (retired (old.entries to)) { now = (old.entries from).now }
  pub others : (other : List ℕ) → other ≢ from → other ≢ to → new.entries other ≡ old.entries other
  pub lost : new.lost ≡ old.lost

-- to the name that it has, nothing changes
abbrev pub Renames : {T : Type 0} → State → State → List ℕ → List ℕ → Result T DiskFault → Type 0
Renames old new from to result = MatchResult result
    (λ _. (from ≡ to → IsUnchanged old new) × (from ≢ to → RenamesFile old new from to))
    (λ fault. FailsAt old new from fault ((from ≢ to) × RenamesFile old new from to))

-- each name is on the disk as it is now, unless a sync has failed before
pub record SettlesNames (old new : State) : Type 0 where
  pub entries : (name : List ℕ) → new.entries name ≡ (if old.lost then old.entries name else kept (old.entries name))
  pub lost : new.lost ≡ old.lost

abbrev pub SyncsNames : {T : Type 0} → State → State → Result T DiskFault → Type 0
SyncsNames old new result = MatchResult result (λ _. SettlesNames old new) (λ _. IsUnchanged old new ⊎ Loses old new)

-- the first n octets of the buffer are those of a file from an offset on; there are none only at its end
pub record Gives (file : File) (at : ℕ) (buf : List ℕ) (n : ℕ) : Type 0 where
  pub octets : take n buf ≡ take n (drop at file.shown)
  pub within : n ≤ length (drop at file.shown)
  pub ends : n ≡ 0 → 0 < length buf → length file.shown ≤ at

-- a file is read; once a sync has failed, a read may give anything
pub record Reads (old new : State) (name : List ℕ) (at : ℕ) (buf : List ℕ) (result : Result ℕ DiskFault) : Type 0 where
  pub same : IsUnchanged old new
  pub gives : old.lost ≡ false → IfOk result (λ n. IsSomeAnd (old.entries name).now (λ file. Gives file at buf n))
  pub missing : IsErrOf result Missing → IsNone (old.entries name).now
  pub not_exists : IsErrOf result Exists → ⊥

-- the names that have a file; once a sync has failed, any
abbrev pub AreNames : State → List (List ℕ) → Type 0
AreNames state names = state.lost ≡ false → (name : List ℕ) → Contains names name ↔ IsSome (state.entries name).now

-- a call on the folder is not refused for a file
pub record IsOfFolder {T : Type 0} (result : Result T DiskFault) : Type 0 where
  pub not_missing : IsErrOf result Missing → ⊥
  pub not_exists : IsErrOf result Exists → ⊥

-- `Failed` and `Full` are told only of a disk that has failed, which it then has for good
pub record HasCause {T : Type 0} (before now : Type 0) (result : Result T DiskFault) : Type 0 where
  pub stays : before → now
  pub failed : IsErrOf result Failed → now
  pub full : IsErrOf result Full → now

-- no more than n syncs were made since
abbrev pub AtMostSyncs : ℕ → ℕ → ℕ → Type 0
AtMostSyncs n before now = now ≤ before + n
