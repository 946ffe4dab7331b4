-- What two sites hold while they are reconciled.
use Rattle.std.specs.Prelude.{◌≡◌, ◌≢◌, ◌↔◌, ◌+◌, ◌*◌, ◌≤◌, ◌⊎◌, List, Result, Ok, Err, length}
use Rattle.std.specs.List.{AllByRecursion}
use Rattle.sha2.specs.Sha256.{sha256}
use Rattle.archive_text.specs.Entries.{Entry, Has}
use Rattle.archive_text.specs.Sets.{IsUnionOfEntries}
use Rattle.archive_text.specs.Text.{text_of}
use Rattle.reconcile.specs.Ranges.{AreAllProper, AreApart, AreThose, AreWithin, Covers, IsInside, IsTold}
use Rattle.reconcile.specs.Requests.{Seen}
use Rattle.reconcile.specs.Unions.{Between, Settled}
use Rattle.reconcile.specs.declared.range.Range.{Range}
use Rattle.reconcile.specs.declared.part.Part.{Part}
use Rattle.reconcile.specs.declared.stopped.Stopped.{Stopped}
use Rattle.reconcile.specs.declared.stopped.Stopped.TheVariants.{Lied}

-- the archives of one range of two sets: two texts of as many records and one length, which differ and have one SHA-256
pub record Collides (a b : List Entry) : Type 0 where
  pub range : Range
  pub first : List Entry
  pub second : List Entry
  pub of_first : AreThose (IsInside range) a first
  pub of_second : AreThose (IsInside range) b second
  pub differ : text_of first ≢ text_of second
  pub records : length first ≡ length second
  pub octets : length (text_of first) ≡ length (text_of second)
  pub digest : sha256 (text_of first) ≡ sha256 (text_of second)

-- where parts were settled
abbrev pub Settles : {A : Type 0} → (Entry → Type 0) → List Entry → List Entry → List Entry → List Entry
    → Result A Stopped → Type 0
Settles P a b a_now b_now (Ok n) = Settled P a b a_now b_now
Settles P a b a_now b_now (Err e) = Between a b a_now b_now × (e ≢ Lied)

-- each set has what either had at this place
abbrev pub AreOneAt : List Entry → List Entry → List Entry → List Entry → Entry → Type 0
AreOneAt a b a_now b_now x = (Has a_now x ↔ (Has a x ⊎ Has b x)) × (Has b_now x ↔ (Has a x ⊎ Has b x))

-- in a range the pending parts are all that is not done: there, and outside the range, both sets are as they were;
-- elsewhere each has what either had, unless two archives collide
pub record Going (r : Range) (a b a_now b_now : List Entry) (pending : List Part) : Type 0 where
  pub apart : AreApart pending
  pub within : AreWithin r pending
  pub proper : AreAllProper pending
  pub told : AllByRecursion (IsTold b) pending
  pub between : Between a b a_now b_now
  pub rest : (x : Entry) → Covers pending x ⊎ ¬ (IsInside r x)
      → (Has a_now x ↔ Has a x) × (Has b_now x ↔ Has b x)
  pub done : Collides a b ⊎ ((x : Entry) → IsInside r x → ¬ (Covers pending x) → AreOneAt a b a_now b_now x)

-- fewer parts are pending, or finer ones in their place
abbrev pub Goes : {A : Type 0} → Range → List Entry → List Entry → List Entry → List Entry → List Part
    → Result A Stopped → Type 0
Goes r a b a_now b_now pending (Ok n) = Going r a b a_now b_now pending
Goes r a b a_now b_now pending (Err e) = Between a b a_now b_now × (e ≢ Lied)

-- in the range both have what either had; where that is the whole order, both are the union
pub record AreUnited (r : Range) (a b a_now b_now : List Entry) : Type 0 where
  pub settled : Settled (IsInside r) a b a_now b_now
  pub whole : ((x : Entry) → IsInside r x) → IsUnionOfEntries a b a_now × (b_now ≡ a_now)

-- they are united, or two archives collide
abbrev pub Unites : {A : Type 0} → Range → List Entry → List Entry → List Entry → List Entry → Result A Stopped → Type 0
Unites r a b a_now b_now (Ok n) = Collides a b ⊎ AreUnited r a b a_now b_now
Unites r a b a_now b_now (Err e) = e ≢ Lied

-- what came of two honest parties
pub record Reconciled {A : Type 0} (r : Range) (a b a_now b_now : List Entry) (old new : Seen)
    (res : Result A Stopped) : Type 0 where
  pub outcome : Unites r a b a_now b_now res
  pub between : Between a b a_now b_now
  pub requests : new.requests ≤ old.requests + 3 * length b + 3
