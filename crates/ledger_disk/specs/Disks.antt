-- What is said of a disk that keeps a ledger.
use Rattle.std.specs.Prelude.{◌≡◌, ◌≢◌, ℕ, true, false, [], List, None, Option, Some, codes, IsSomeAnd}
use Rattle.disk.specs.Memory.{shown_now}
use Rattle.disk.specs.States.{State}
use Rattle.record_store.specs.Names.{IsSegment}
use Rattle.store_reading.specs.Days.{IsPeriodText}
use Rattle.ledger.specs.Standings.{listed_at}
use Rattle.ledger.specs.Lines.{Said}
use Rattle.ledger.specs.declared.entry.Event.TheVariants.{Gone, Sealed}
use Rattle.ledger.specs.declared.entry.Removal.{Removal}
use Rattle.ledger.specs.declared.standing.Listed.{Listed}
use Rattle.ledger.specs.declared.standing.Standing.{Standing}
use Rattle.ledger_disk.specs.Ledgers.{GainsLine}
use Rattle.ledger_disk.specs.declared.purpose.Purpose.{Purpose}
use Rattle.ledger_disk.specs.declared.purpose.Purpose.TheVariants.{Expire}

-- its own state is told of no file: what is said is said of the disk underneath
abbrev pub untold : State
untold = record { entries = λ _. record { now = None; past = []; moved = false }; lost = false }

-- the name of the ledger
abbrev pub ledger_name : List ℕ
ledger_name = codes "ledger"

-- the name of a segment
abbrev pub IsSegmentName : List ℕ → Type 0
IsSegmentName name = (period : List ℕ) × IsPeriodText period × IsSegment period name

-- a segment is listed as sealed
abbrev pub IsListedSealed : Option Standing → List ℕ → Type 0
IsListedSealed standing name = IsSomeAnd standing (λ s. IsSomeAnd (listed_at s name) (λ listed. listed.sealed ≡ true))

-- what is listed of a segment, where it is known what the ledger lists
abbrev pub listed_in : Option Standing → List ℕ → Option Listed
listed_in None name = None
listed_in (Some standing) name = listed_at standing name

-- how many records and octets that says it has
abbrev pub size_listed : Listed → ℕ × ℕ
size_listed listed = (listed.count, listed.octets)

-- what the line of a seal says: the root, and of the segment what is listed of it
abbrev pub seal_said : List ℕ → List ℕ → Listed → Said
seal_said name root listed =
    record { event = Sealed root; name = name; count = listed.count; octets = listed.octets }

-- behind its whole lines the ledger has one more now, which seals a segment that is listed with this root, as long as
-- what is listed of it says
abbrev pub TellsSeal : State → State → Option Standing → List ℕ → List ℕ → Type 0
TellsSeal old new standing name root =
    IsSomeAnd (listed_in standing name) (λ listed. GainsLine old new ledger_name (seal_said name root listed))

-- a segment that is sealed, where no segments expire
abbrev pub IsKept : Purpose → Option Standing → List ℕ → Type 0
IsKept purpose standing name = (purpose ≢ Expire) × IsListedSealed standing name

-- behind its whole lines the ledger has one more now, which says that the segment is gone
abbrev pub TellsGone : State → State → List ℕ → Type 0
TellsGone old new name =
    (removal : Removal) × (count octets : ℕ)
    × GainsLine old new ledger_name (record { event = Gone removal; name = name; count = count; octets = octets })

-- the files but the ledger and this one are the same
abbrev pub KeepsOtherFiles : State → State → List ℕ → Type 0
KeepsOtherFiles old new name =
    (other : List ℕ) → other ≢ ledger_name → other ≢ name
    → shown_now (new.entries other) ≡ shown_now (old.entries other)
