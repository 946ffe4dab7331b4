-- What is found of a ledger, and of the files beside it.
use Rattle.std.specs.Prelude.{◌≡◌, ◌≢◌, ◌↔◌, ◌⊎◌, ℕ, false, List, [], Option, None, Some, IsNone, IsSome, IsTrue, Contains, Vec, map}
use Rattle.std.specs.Borrow.{Bor}
use Rattle.disk.specs.States.{Files}
use Rattle.octet_devices.specs.Device.{InputState}
use Rattle.store_reading.specs.Folders.{Opens}
use Rattle.ledger.specs.Readings.{IsBroken, IsRead}
use Rattle.ledger.specs.Standings.{listed_at}
use Rattle.ledger.specs.declared.reader.LedgerRead.{LedgerRead}
use Rattle.ledger.specs.declared.standing.Listed.{Listed}
use Rattle.ledger.specs.declared.standing.Standing.{Standing}
use Rattle.ledger_engine.specs.Known.{IsOfStore, IsUnlisted, aside_name, ledger_text}
use Rattle.ledger_engine.specs.declared.findings.LedgerFindings.{LedgerFindings}

-- the octets of names
abbrev pub octets_of : {A : Type 0} → List (Vec ℕ A) → List (List ℕ)
octets_of names = map (λ v. v.items) names

-- the names of the segments that are missing
abbrev pub missing_names : LedgerFindings → List (List ℕ)
missing_names f = octets_of f.missing.items

-- a segment that is not sealed was set aside, among files for which `There` holds
abbrev pub WasSetAside : (List ℕ → Type 0) → List ℕ → Listed → Type 0
WasSetAside There name listed = (listed.sealed ≡ false) × There (aside_name name)

-- of the segments that are listed, none of which is there, these are missing
pub record IsListedAbsent {A : Type 0} (There : List ℕ → Type 0) (t : Standing) (missing : List (Vec ℕ A)) : Type 0 where
  pub listed : (name : List ℕ) (listed : Listed) → listed_at t name ≡ Some listed
      → WasSetAside There name listed ⊎ Contains (octets_of missing) name
  pub only : (name : List ℕ) → Contains (octets_of missing) name → IsSome (listed_at t name)

-- a segment that is listed is there, was set aside, or is told as missing
abbrev pub IsThereOrMissing : (List ℕ → Type 0) → LedgerFindings → List ℕ → Listed → Type 0
IsThereOrMissing There f name listed = There name ⊎ WasSetAside There name listed ⊎ Contains (missing_names f) name

-- what is found of the segments that a ledger lists, among files for whose names `There` holds
pub record IsCompared (There : List ℕ → Type 0) (t : Standing) (f : LedgerFindings) : Type 0 where
  pub whole : f.broken ≡ None
  pub listed : (name : List ℕ) (listed : Listed) → listed_at t name ≡ Some listed → IsThereOrMissing There f name listed
  pub missing : (name : List ℕ) → Contains (missing_names f) name → IsSome (listed_at t name) × ¬ (There name)
  pub unlisted : (name : List ℕ) → Contains f.unlisted.items name ↔ (There name × IsUnlisted t name)
  pub foreign : (name : List ℕ) → Contains f.foreign.items name ↔ (There name × ¬ (IsOfStore name))

-- nothing is found but this of the ledger itself
pub record FindsNoFile (f : LedgerFindings) : Type 0 where
  pub missing : f.missing.items ≡ []
  pub unlisted : f.unlisted.items ≡ []
  pub foreign : f.foreign.items ≡ []

-- there is no ledger, so it lacks the line that it is asked for
pub record FindsNoLedger (against : Option (Bor (List ℕ))) (f : LedgerFindings) : Type 0 where
  pub whole : f.broken ≡ None
  pub lacks : IsTrue f.lacks_line ↔ IsSome against
  pub files : FindsNoFile f

-- the first line of the ledger that is none, or does not continue the chain, is told
pub record FindsBreak (text : List ℕ) (f : LedgerFindings) : Type 0 where
  pub at : ℕ
  pub told : f.broken ≡ Some at
  pub breaks : IsBroken text at
  pub keeps : ¬ (IsTrue f.lacks_line)
  pub files : FindsNoFile f

-- a ledger that was read is compared with the files, and with the line that it is asked for
pub record FindsRead (There : List ℕ → Type 0) (against : Option (Bor (List ℕ))) (text : List ℕ) (f : LedgerFindings) : Type
    0 where
  pub read : LedgerRead
  pub torn : List ℕ
  pub is_read : IsRead against text read torn
  pub lacks : IsTrue f.lacks_line ↔ (IsSome against × ¬ (IsTrue read.has_line))
  pub compared : IsCompared There read.standing f

-- what is found of the text of a ledger
abbrev pub IsExamined : (List ℕ → Type 0) → Option (Bor (List ℕ)) → List ℕ → LedgerFindings → Type 0
IsExamined There against text f = FindsBreak text f ⊎ FindsRead There against text f

-- the ledger was opened, or there is none
abbrev pub OpensLedger : {R : Type 0} → (R → InputState) → Files → Option R → Type 0
OpensLedger state files None = IsNone (files ledger_text)
OpensLedger state files (Some file) = Opens files ledger_text (state file)

-- a segment is told that is missing or not listed
abbrev pub MayPass : LedgerFindings → Type 0
MayPass f = (f.missing.items ≢ []) ⊎ (f.unlisted.items ≢ [])

-- nothing is wrong
pub record FindsNothing (f : LedgerFindings) : Type 0 where
  pub whole : f.broken ≡ None
  pub keeps : f.lacks_line ≡ false
  pub files : FindsNoFile f

-- what is found of a folder's files
pub record IsFoundOf (files : Files) (against : Option (Bor (List ℕ))) (f : LedgerFindings) : Type 0 where
  pub none : IsNone (files ledger_text) → FindsNoLedger against f
  pub ledger : (text : List ℕ) → files ledger_text ≡ Some text
      → IsExamined (λ name. IsSome (files name)) against text f
