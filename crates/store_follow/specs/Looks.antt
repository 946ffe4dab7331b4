-- What a look at the journals of a store comes to.
use Rattle.std.specs.Prelude.{◌≡◌, ◌≢◌, ◌⊎◌, ℕ, ◌+◌, ◌<◌, ◌≤◌, ◌^◌, Bool, true, false, List, [], ◌∷◌, ◌++◌, drop, length}
use Rattle.std.specs.Prelude.{Option, Some, None, Result, Ok, Err}
use Rattle.disk.specs.States.{State}
use Rattle.disk.specs.declared.fault.DiskFault.TheVariants.{Missing, Exists, Full, Failed, Memory as Disk_memory}
use Rattle.journal.specs.Batches.{IsClosed}
use Rattle.journal.specs.Journals.{EndsAt}
use Rattle.record_store.specs.Shown.{IsNewestShown, NoneShownAbove, ShowsNoJournal, journal_shown}
use Rattle.store_follow.specs.Batches.{Writes, WritesPart}
use Rattle.store_follow.specs.Laws.{IsBehind}
use Rattle.store_follow.specs.declared.fault.BatchFault.{BatchFault}
use Rattle.store_follow.specs.declared.fault.BatchFault.TheVariants.{Disk, Damaged as No_batch, Write as Not_written}
use Rattle.store_follow.specs.declared.fault.FollowFault.{FollowFault}
use Rattle.store_follow.specs.declared.fault.FollowFault.TheVariants.{Names, Read, Damaged, Gap, Replaced, Write, Memory}
use Rattle.store_follow.specs.declared.follower.Follower.{Follower}
use Rattle.store_follow.specs.declared.follower.Looked.{Looked}
use Rattle.store_follow.specs.declared.place.Place.{Place}

-- where a follower is, if it has begun
abbrev pub place_of : Follower → Option Place
place_of follower = follower.place

-- the first of some numbers
abbrev pub IsFirst : List ℕ → Option ℕ → Type 0
IsFirst [] found = found ≡ None
IsFirst (number ∷ numbers) found = found ≡ Some number

-- no journal before this one is shown
abbrev pub NoneShownBelow : State → ℕ → Type 0
NoneShownBelow state number = (n : ℕ) → n < number → journal_shown state n ≡ None

-- a later journal is shown
pub record ShowsLater (state : State) (number : ℕ) : Type 0 where
  pub later : ℕ
  pub above : number < later
  pub shown : journal_shown state later ≢ None

-- a look begins where the follower is, or at the start of the oldest journal that is shown
abbrev pub BeginsAt : State → Option Place → ℕ → ℕ → Type 0
BeginsAt state (Some place) number at = (number ≡ place.number) × (at ≡ place.at)
BeginsAt state None number at =
    (number < 2 ^ 64) × (journal_shown state number ≢ None) × NoneShownBelow state number × (at ≡ 0)

-- the same of numbers that were listed
abbrev pub IsBeginning : Option Place → List ℕ → Option Place → Type 0
IsBeginning (Some place) numbers found = found ≡ Some place
IsBeginning None [] found = found ≡ None
IsBeginning None (number ∷ numbers) found =
    (place : Place) × (found ≡ Some place) × (place.number ≡ number) × (place.at ≡ 0)

-- a follower is at an offset of a journal
abbrev pub IsAtPlace : Option Place → ℕ → ℕ → Type 0
IsAtPlace None number at = ⊥
IsAtPlace (Some place) number at = (place.number ≡ number) × (place.at ≡ at)

-- the place after a look: the same, or the start of the next journal where no batch is left in this one and a later one was
-- listed; and whether there is more to be read
abbrev pub IsTurn : Place → Bool → Option ℕ → Place → Bool → Type 0
IsTurn place false later next more = (next ≡ place) × (more ≡ true)
IsTurn place true None next more = (next ≡ place) × (more ≡ false)
IsTurn place true (Some n) next more = (next.number ≡ place.number + 1) × (next.at ≡ 0) × (more ≡ true)

-- the fault that is told of a journal
abbrev pub IsToldAs : Place → BatchFault → FollowFault → Type 0
IsToldAs place (Disk Missing) told = told ≡ Read place.number Missing
IsToldAs place (Disk Exists) told = told ≡ Read place.number Exists
IsToldAs place (Disk Full) told = told ≡ Read place.number Full
IsToldAs place (Disk Failed) told = told ≡ Read place.number Failed
IsToldAs place (Disk Disk_memory) told = told ≡ Memory
IsToldAs place No_batch told = told ≡ Damaged place.number place.at
IsToldAs place Not_written told = told ≡ Write

-- what a look comes to at a place of a journal: by what was read of it, and by which later journal was listed
abbrev pub ComesTo : Place → Result Bool BatchFault → Option ℕ → Option Place → Result Looked FollowFault → Type 0
ComesTo place (Ok ended) later next result =
    (to : Place) × (looked : Looked) × (next ≡ Some to) × (result ≡ Ok looked) × IsTurn place ended later to looked.more
ComesTo place (Err (Disk Missing)) None next result =
    (looked : Looked) × (next ≡ Some place) × (result ≡ Ok looked) × (looked.more ≡ false)
ComesTo place (Err (Disk Missing)) (Some number) next result =
    IsAtPlace next number 0 × (result ≡ Err (Gap place.number))
ComesTo place (Err fault) later next result =
    (told : FollowFault) × (next ≡ Some place) × (result ≡ Err told) × IsToldAs place fault told

-- all batches of the newest journal that is shown are behind a place; or no journal is shown, and there is no place
pub record IsBehindNewest (state : State) (place : Place) : Type 0 where
  pub file : List ℕ
  pub newest : IsNewestShown state place.number file
  pub bodies : List (List ℕ)
  pub ends : EndsAt file bodies place.at

abbrev pub IsBehindAll : State → Option Place → Type 0
IsBehindAll state None = ShowsNoJournal state
IsBehindAll state (Some place) = IsBehindNewest state place

-- a look stays at a journal, where more may come at once if that is told, and else nothing is left, here or in a later
-- journal; or it has gone on to the start of the next one, since nothing is left and a later one is shown
pub record Stays (state : State) (file : List ℕ) (number end : ℕ) (next : Option Place) (more : Bool) : Type 0 where
  pub place : IsAtPlace next number end
  pub over : more ≡ false → IsClosed (drop end file) × NoneShownAbove state number

pub record GoesOn (state : State) (file : List ℕ) (number end : ℕ) (next : Option Place) (more : Bool) : Type 0 where
  pub place : IsAtPlace next (number + 1) 0
  pub over : IsClosed (drop end file)
  pub later : ShowsLater state number
  pub is_more : more ≡ true

-- batches are the next ones of a journal behind those that come first, up to an offset
abbrev pub AreNext : List ℕ → ℕ → ℕ → List (List ℕ) → Type 0
AreNext file at end bodies = (first behind : List (List ℕ)) → IsBehind file at first behind
    → (left : List (List ℕ)) × (behind ≡ bodies ++ left) × IsBehind file end (first ++ bodies) left

-- a look that read a journal: from the place on, all that was written are the entries of its batches up to an offset, each
-- of them a batch that the journal has
pub record LookedAt (state : State) (old new : Option Place) (before now : Option (List ℕ)) (more : Bool) : Type 0 where
  pub number : ℕ
  pub at : ℕ
  pub begins : BeginsAt state old number at
  pub file : List ℕ
  pub shown : journal_shown state number ≡ Some file
  pub reaches : at ≤ length file
  pub end : ℕ
  pub writes : Writes file at end before now
  pub committed : AreNext file at end writes.bodies
  pub next : Stays state file number end new more ⊎ GoesOn state file number end new more

-- a look that found none: no journal is shown
pub record LookedInVain (state : State) (old new : Option Place) (before now : Option (List ℕ)) (more : Bool) : Type 0 where
  pub none : ShowsNoJournal state
  pub place : new ≡ old
  pub nothing : now ≡ before
  pub over : more ≡ false

abbrev pub Looks : State → Option Place → Option Place → Option (List ℕ) → Option (List ℕ) → Bool → Type 0
Looks state old new before now more = LookedAt state old new before now more ⊎ LookedInVain state old new before now more

-- what was written before a fault: entries of whole batches, behind which the follower is then
pub record WroteBefore (state : State) (old new : Option Place) (before now : Option (List ℕ)) : Type 0 where
  pub number : ℕ
  pub at : ℕ
  pub begins : BeginsAt state old number at
  pub end : ℕ
  pub place : IsAtPlace new number end
  pub writes : (file : List ℕ) → journal_shown state number ≡ Some file → Writes file at end before now

-- and a part of the next one's
pub record WrotePart (state : State) (old new : Option Place) (before now : Option (List ℕ)) : Type 0 where
  pub number : ℕ
  pub at : ℕ
  pub begins : BeginsAt state old number at
  pub end : ℕ
  pub place : IsAtPlace new number end
  pub writes : (file : List ℕ) → journal_shown state number ≡ Some file → WritesPart file at end before now

-- or nothing, and the follower is where it was
pub record WroteNothing (old new : Option Place) (before now : Option (List ℕ)) : Type 0 where
  pub place : new ≡ old
  pub nothing : now ≡ before

-- a journal is gone, and a later one is there, at whose start the follower is then; nothing was written
pub record FoundGap (state : State) (old new : Option Place) (gone : ℕ) (before now : Option (List ℕ)) : Type 0 where
  pub at : ℕ
  pub begins : BeginsAt state old gone at
  pub none : journal_shown state gone ≡ None
  pub later : ShowsLater state gone
  pub place : IsAtPlace new later.later 0
  pub nothing : now ≡ before

-- a journal is shown that ends before an offset
pub record IsShorter (state : State) (number at : ℕ) : Type 0 where
  pub file : List ℕ
  pub shown : journal_shown state number ≡ Some file
  pub ends : length file < at

-- neither a journal nor a later one is shown, but an earlier one is
pub record IsAboveAll (state : State) (number : ℕ) : Type 0 where
  pub none : journal_shown state number ≡ None
  pub none_above : NoneShownAbove state number
  pub earlier : ℕ
  pub below : earlier < number
  pub shown : journal_shown state earlier ≢ None

-- the journal of the place is another one, or gone back behind; nothing was written, and the follower begins again with the
-- first batch of the oldest journal that is shown
pub record FoundReplaced (state : State) (old new : Option Place) (gone : ℕ) (before now : Option (List ℕ)) : Type 0 where
  pub at : ℕ
  pub begins : BeginsAt state old gone at
  pub is_other : IsShorter state gone at ⊎ IsAboveAll state gone
  pub place : new ≡ None
  pub nothing : now ≡ before

-- a fault of listing the journals
abbrev pub IsListingFault : FollowFault → Type 0
IsListingFault (Names fault) = Unit {0}
IsListingFault (Read number fault) = ⊥
IsListingFault (Damaged number at) = ⊥
IsListingFault (Gap number) = ⊥
IsListingFault (Replaced number) = ⊥
IsListingFault Write = ⊥
IsListingFault Memory = Unit {0}

-- what a fault says of a look
abbrev pub Fails : FollowFault → State → Option Place → Option Place → Option (List ℕ) → Option (List ℕ) → Type 0
Fails (Names fault) state old new before now = WroteNothing old new before now
Fails (Read number fault) state old new before now = WroteBefore state old new before now
Fails (Damaged number at) state old new before now = WroteBefore state old new before now
Fails (Gap number) state old new before now = FoundGap state old new number before now
Fails (Replaced number) state old new before now = FoundReplaced state old new number before now
Fails Write state old new before now = WrotePart state old new before now
Fails Memory state old new before now = WroteNothing old new before now ⊎ WroteBefore state old new before now
