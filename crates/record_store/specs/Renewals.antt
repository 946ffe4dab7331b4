-- The newest journal, once it was written anew.
use Rattle.std.specs.Prelude.{◌≡◌, ◌⊎◌, ℕ, ◌+◌, ◌^◌, ◌<◌, List, None, codes}
use Rattle.disk.specs.States.{State}
use Rattle.journal.specs.Journals.{IsOnDisk}
use Rattle.record_store.specs.Names.{journal_name}
use Rattle.record_store.specs.Shown.{IsNewestShown, ShowsNoJournal, journal_shown}

-- what it is called until all of it is on the disk
abbrev pub renewal_name : List ℕ
renewal_name = codes "new.journal"

-- the names of a journal, of the draft, and of the next journal
pub record AreRenewalNames (number : ℕ) (name draft next : List ℕ) : Type 0 where
  pub fits : number + 1 < 2 ^ 64
  pub name_is : name ≡ journal_name number
  pub draft_is : draft ≡ renewal_name
  pub next_is : next ≡ journal_name (number + 1)

-- What a read showed in the newest journal is on the disk as the next one, which is the newest now. The one before is gone.
pub record Renewed (old new : State) (number : ℕ) (octets : List ℕ) : Type 0 where
  pub was : IsNewestShown old number octets
  pub now : IsNewestShown new (number + 1) octets
  pub on_disk : IsOnDisk new (journal_name (number + 1)) octets
  pub gone : journal_shown new number ≡ None

-- that, or there was none
abbrev pub Renews : State → State → Type 0
Renews old new = ((number : ℕ) × (octets : List ℕ) × Renewed old new number octets) ⊎ ShowsNoJournal old
