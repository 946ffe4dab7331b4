-- What the files of a store are called.
use Rattle.std.specs.Prelude.{◌≡◌, ◌↔◌, ◌⊎◌, ℕ, List, ◌++◌, Contains, IsNone, codes}
use Rattle.record_store.specs.Names.{IsJournal, IsSegment}
use Rattle.store_reading.specs.Days.{IsPeriodText}
use Rattle.ledger.specs.Standings.{listed_at}
use Rattle.ledger.specs.declared.standing.Standing.{Standing}

-- the ledger
abbrev pub ledger_text : List ℕ
ledger_text = codes "ledger"

-- the name is that of a lock
abbrev pub IsLock : List ℕ → Type 0
IsLock name =
    (name ≡ codes "lock") ⊎ (name ≡ codes "lock.compact") ⊎ (name ≡ codes "lock.add") ⊎ (name ≡ codes "lock.ledger")

-- of a draft
abbrev pub IsDraft : List ℕ → Type 0
IsDraft name =
    (name ≡ codes "new.archive") ⊎ (name ≡ codes "new.journal") ⊎ (name ≡ codes "compact.archive")
    ⊎ (name ≡ codes "add.archive") ⊎ (name ≡ codes "expire.archive") ⊎ (name ≡ codes "backup.archive")

-- of a file of what was refused
abbrev pub IsRefused : List ℕ → Type 0
IsRefused name = (name ≡ codes "refused") ⊎ (name ≡ codes "refused.1") ⊎ (name ≡ codes "refused.new")

-- of the ledger, or of what a backup has left to do
abbrev pub IsLedgerOrBackup : List ℕ → Type 0
IsLedgerOrBackup name = (name ≡ ledger_text) ⊎ (name ≡ codes "backup.unfinished")

-- what a file is called that was set aside
abbrev pub aside_name : List ℕ → List ℕ
aside_name name = codes "damaged." ++ name

abbrev pub IsAsideName : List ℕ → Type 0
IsAsideName name = (other : List ℕ) × (name ≡ aside_name other)

-- the name is that of a segment
abbrev pub IsSegmentName : List ℕ → Type 0
IsSegmentName name = (period : List ℕ) × IsPeriodText period × IsSegment period name

-- a store may have a file of the name
abbrev pub IsOfStore : List ℕ → Type 0
IsOfStore name =
    IsJournal name ⊎ IsSegmentName name ⊎ IsAsideName name ⊎ IsLock name ⊎ IsDraft name ⊎ IsRefused name
    ⊎ IsLedgerOrBackup name

-- those of some names for which P holds
abbrev pub AreThose : (List ℕ → Type 0) → List (List ℕ) → List (List ℕ) → Type 0
AreThose P names those = (name : List ℕ) → Contains those name ↔ (Contains names name × P name)

-- the name is that of a segment that is not listed
abbrev pub IsUnlisted : Standing → List ℕ → Type 0
IsUnlisted t name = IsSegmentName name × IsNone (listed_at t name)
