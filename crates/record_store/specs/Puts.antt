-- What it is to put a whole file under a name.
use Rattle.std.specs.Prelude.{◌≡◌, ◌≢◌, ◌⊎◌, ℕ, List, Option, Some}
use Rattle.disk.specs.Memory.{shown_now}
use Rattle.disk.specs.States.{NameMayLeave, State, kept}

-- a crash leaves under the name what it might have left before, or the whole text
abbrev pub LeavesOldOr : State → State → List ℕ → List ℕ → Type 0
LeavesOldOr old new name text = (octets : Option (List ℕ)) → NameMayLeave (new.entries name) octets
    → NameMayLeave (old.entries name) octets ⊎ (octets ≡ Some text)

-- a read shows under the name what it showed before, or the whole text
abbrev pub ShowsOldOr : State → State → List ℕ → List ℕ → Type 0
ShowsOldOr old new name text =
    (shown_now (new.entries name) ≡ shown_now (old.entries name)) ⊎ (shown_now (new.entries name) ≡ Some text)

-- each name but these two is as it was, but that what is there may be on the disk now
abbrev pub KeepsOrSettlesApart : State → State → List ℕ → List ℕ → Type 0
KeepsOrSettlesApart old new draft name = (other : List ℕ) → other ≢ draft → other ≢ name
    → (new.entries other ≡ old.entries other) ⊎ (new.entries other ≡ kept (old.entries other))
