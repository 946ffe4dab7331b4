-- Two archives on their way into one.
use Rattle.std.specs.Prelude.{◌≡◌, ◌≢◌, ℕ, ◌+◌, ◌-◌, ◌^◌, ◌<◌, ◌≤◌, ◌⊎◌, List, [], length, min, vec_capacity, Result}
use Rattle.std.specs.Prelude.{Ok, Err}
use Rattle.std.specs.declared.cmp.Ordering.{Ordering}
use Rattle.std.specs.declared.cmp.Ordering.TheVariants.{Less, Equal, Greater}
use Rattle.octet_devices.specs.Device.{count_on}
use Rattle.archive_text.specs.Entries.{IsBelow}
use Rattle.archive_streams.specs.EntryTexts.{entry_in}
use Rattle.archive_streams.specs.Sides.{IsNear}
use Rattle.archive_streams.specs.declared.entry.TheConstants.{TEXT_MAX}
use Rattle.archive_streams.specs.declared.fault.MergeFault.{MergeFault}
use Rattle.archive_streams.specs.declared.fault.MergeFault.TheVariants.{Read, Write, Memory}
use Rattle.archive_streams.specs.declared.fault.Side.TheVariants.{Left as side_Left, Right as side_Right}
use Rattle.archive_streams.specs.declared.merge.Merge.{Merge}

-- one, where there are octets
abbrev pub some_of : List ℕ → ℕ
some_of s = min 1 (length s)

-- how many sides have a next entry
abbrev pub rank : Merge → ℕ
rank m = some_of m.left.entry.text.items + some_of m.right.entry.text.items

-- how far the two archives may still be read
abbrev pub height : Merge → ℕ
height m = (2 ^ 40 + rank m) - (m.left.position + m.right.position)

-- the room that was reserved, and positions that the calls made can give
pub record HasRoom (m : Merge) : Type 0 where
  pub left : TEXT_MAX ≤ vec_capacity m.left.entry.text
  pub right : TEXT_MAX ≤ vec_capacity m.right.entry.text
  pub last : TEXT_MAX ≤ vec_capacity m.last.text
  pub last_start : m.last.start ≤ length m.last.text.items
  pub left_near : IsNear m.left
  pub right_near : IsNear m.right

-- the next entry of each side is known
pub record IsSteady (m : Merge) : Type 0 where
  pub room : HasRoom m
  pub left_start : m.left.entry.text.items ≢ [] → m.left.entry.start ≤ length m.left.entry.text.items
  pub right_start : m.right.entry.text.items ≢ [] → m.right.entry.start ≤ length m.right.entry.text.items
  pub counted : m.count + rank m ≤ m.left.position + m.right.position

-- the next entry of the left is to be read
pub record IsLeftDue (m : Merge) : Type 0 where
  pub room : HasRoom m
  pub right_start : m.right.entry.text.items ≢ [] → m.right.entry.start ≤ length m.right.entry.text.items
  pub counted : m.count + some_of m.right.entry.text.items ≤ m.left.position + m.right.position

-- the next entry of the right is to be read
pub record IsRightDue (m : Merge) : Type 0 where
  pub room : HasRoom m
  pub left_start : m.left.entry.text.items ≢ [] → m.left.entry.start ≤ length m.left.entry.text.items
  pub counted : m.count + some_of m.left.entry.text.items ≤ m.left.position + m.right.position

-- which entry comes next
abbrev pub IsNextOrder : Ordering → Merge → Type 0
IsNextOrder Less m =
    (m.left.entry.text.items ≢ []) × (m.right.entry.text.items ≢ []
    → IsBelow (entry_in m.left.entry) (entry_in m.right.entry))
IsNextOrder Equal m =
    (m.left.entry.text.items ≢ []) × (m.right.entry.text.items ≢ []) × (entry_in m.left.entry ≡ entry_in m.right.entry)
IsNextOrder Greater m =
    (m.right.entry.text.items ≢ []) × (m.left.entry.text.items ≢ []
    → IsBelow (entry_in m.right.entry) (entry_in m.left.entry))

-- a reader failed at this fault alone
abbrev pub LeftFailures : {X : Type 0} → Result X MergeFault → ℕ → ℕ → Type 0
LeftFailures (Err (Read side_Left)) old new = new ≡ count_on old
LeftFailures r old new = new ≡ old

abbrev pub RightFailures : {X : Type 0} → Result X MergeFault → ℕ → ℕ → Type 0
RightFailures (Err (Read side_Right)) old new = new ≡ count_on old
RightFailures r old new = new ≡ old

-- a reader failed where it is told, or where the writer failed then as what was held back was
-- written; else it did not
abbrev pub LeftReadFailed : {X : Type 0} → Result X MergeFault → ℕ → ℕ → Type 0
LeftReadFailed (Err (Read side_Left)) old new = new ≡ count_on old
LeftReadFailed (Err (Write sent)) old new = (new ≡ old) ⊎ (new ≡ count_on old)
LeftReadFailed r old new = new ≡ old

abbrev pub RightReadFailed : {X : Type 0} → Result X MergeFault → ℕ → ℕ → Type 0
RightReadFailed (Err (Read side_Right)) old new = new ≡ count_on old
RightReadFailed (Err (Write sent)) old new = (new ≡ old) ⊎ (new ≡ count_on old)
RightReadFailed r old new = new ≡ old

-- the writer failed where this fault is reported; else it did not
abbrev pub WriteFailed : {X : Type 0} → Result X MergeFault → ℕ → ℕ → Type 0
WriteFailed (Err (Write sent)) old new = old < 2 ^ 63 → old < new
WriteFailed r old new = new ≡ old

-- this fault is of a side
abbrev pub NotWrite : {X : Type 0} → Result X MergeFault → Type 0
NotWrite (Err (Write sent)) = ⊥
NotWrite (Err Memory) = ⊥
NotWrite r = Unit {0}

-- this fault is of the writer
abbrev pub OnlyWrite : {X : Type 0} → Result X MergeFault → Type 0
OnlyWrite (Err (Write sent)) = Unit {0}
OnlyWrite (Err fault) = ⊥
OnlyWrite (Ok x) = Unit {0}
