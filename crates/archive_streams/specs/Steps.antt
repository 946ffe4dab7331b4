-- What each step makes of two archives on their way into one.
use Rattle.std.specs.Prelude.{◌≡◌, ◌≢◌, ℕ, ◌+◌, ◌^◌, ◌<◌, List, [], Option, Result, IsErrOf, length}
use Rattle.octet_devices.specs.Device.{InputState, OutputState}
use Rattle.archive_text.specs.Entries.{IsBelow}
use Rattle.archive_streams.specs.EntryTexts.{entry_in}
use Rattle.archive_streams.specs.Halted.{Halted, IsNotWrite}
use Rattle.archive_streams.specs.Joined.{Joined}
use Rattle.archive_streams.specs.Joins.{BothDue, LeftDue, Merging, RightDue}
use Rattle.archive_streams.specs.Merging.{HasRoom, IsSteady, LeftFailures, LeftReadFailed, NotWrite, OnlyWrite}
use Rattle.archive_streams.specs.Merging.{RightFailures, RightReadFailed, WriteFailed, rank}
use Rattle.archive_streams.specs.Stopped.{Stopped}
use Rattle.archive_streams.specs.declared.fault.MergeFault.{MergeFault}
use Rattle.archive_streams.specs.declared.fault.MergeFault.TheVariants.{Read, Memory}
use Rattle.archive_streams.specs.declared.fault.Side.TheVariants.{Left as side_Left, Right as side_Right}
use Rattle.archive_streams.specs.declared.merge.Merge.{Merge}

-- ---- the next entry of a side is read

-- the left went on, and each next entry is known
pub record LeftIsOn (m n : Merge) : Type 0 where
  pub steady : IsSteady n
  pub position : n.left.position ≡ m.left.position + length n.left.entry.text.items

pub record RightIsOn (m n : Merge) : Type 0 where
  pub steady : IsSteady n
  pub position : n.right.position ≡ m.right.position + length n.right.entry.text.items

-- one side is as it was, and as many entries are joined
pub record KeepsRight (m n : Merge) : Type 0 where
  pub right : n.right ≡ m.right
  pub count : n.count ≡ m.count

pub record KeepsLeft (m n : Merge) : Type 0 where
  pub left : n.left ≡ m.left
  pub count : n.count ≡ m.count

-- a fault is of the left alone, and of its reader where that failed
pub record TellsLeft {X : Type 0} (r : Result X MergeFault) (d e : InputState) : Type 0 where
  pub failures : LeftFailures r d.failures e.failures
  pub others : (n : ℕ) → RightFailures r n n
  pub not_written : NotWrite r
  pub not_memory : ¬ (IsErrOf r Memory)

pub record TellsRight {X : Type 0} (r : Result X MergeFault) (d e : InputState) : Type 0 where
  pub failures : RightFailures r d.failures e.failures
  pub others : (n : ℕ) → LeftFailures r n n
  pub not_written : NotWrite r
  pub not_memory : ¬ (IsErrOf r Memory)

-- where the left was due alone, each next entry is known; where both were, the right is due
pub record LeftReady (m n : Merge) (el fl : InputState) : Type 0 where
  pub alone : (dl dr er : InputState) (start now : Option (List ℕ)) → LeftDue m dl el dr er start now
      → Merging n dl fl dr er start now
  pub first : (dl dr er : InputState) (start now : Option (List ℕ)) → BothDue m dl el dr er start now
      → RightDue n dl fl dr er start now

abbrev pub RightReady : Merge → Merge → InputState → InputState → Type 0
RightReady m n er fr =
    (dl el dr : InputState) (start now : Option (List ℕ)) → RightDue m dl el dr er start now
    → Merging n dl el dr fr start now

-- a fault of a side halts what was due
pub record LeftHalts (fault : MergeFault) (m n : Merge) (el fl : InputState) : Type 0 where
  pub alone : (dl dr er : InputState) (start now : Option (List ℕ)) → LeftDue m dl el dr er start now
      → Halted fault n.held dl fl dr er start now
  pub first : (dl dr er : InputState) (start now : Option (List ℕ)) → BothDue m dl el dr er start now
      → Halted fault n.held dl fl dr er start now

abbrev pub RightHalts : MergeFault → Merge → Merge → InputState → InputState → Type 0
RightHalts fault m n er fr =
    (dl el dr : InputState) (start now : Option (List ℕ)) → RightDue m dl el dr er start now
    → Halted fault n.held dl el dr fr start now

-- ---- the next entry of a side is written

-- nothing more is read
pub record TakesLeft (m n : Merge) : Type 0 where
  pub position : n.left.position ≡ m.left.position
  pub right : n.right ≡ m.right

pub record TakesRight (m n : Merge) : Type 0 where
  pub position : n.right.position ≡ m.right.position
  pub left : n.left ≡ m.left

-- a fault is the writer's alone
pub record TellsWriter {X : Type 0} (r : Result X MergeFault) (a b : OutputState) : Type 0 where
  pub failures : WriteFailed r a.failures b.failures
  pub only : OnlyWrite r
  pub not_left : ¬ (IsErrOf r (Read side_Left))
  pub not_right : ¬ (IsErrOf r (Read side_Right))
  pub not_memory : ¬ (IsErrOf r Memory)

-- a next entry is below that of the other side, if there is one; or it is the same
abbrev pub IsLeftBelow : Merge → Type 0
IsLeftBelow m = m.right.entry.text.items ≢ [] → IsBelow (entry_in m.left.entry) (entry_in m.right.entry)

abbrev pub IsRightBelow : Merge → Type 0
IsRightBelow m = m.left.entry.text.items ≢ [] → IsBelow (entry_in m.right.entry) (entry_in m.left.entry)

-- the entry of the left is joined, and the next one is due; or those of both sides
pub record LeftWritten (m n : Merge) (a b : OutputState) : Type 0 where
  pub less : (dl el dr er : InputState) (start : Option (List ℕ)) → IsLeftBelow m
      → Merging m dl el dr er start a.taken → LeftDue n dl el dr er start b.taken
  pub equal : (dl el dr er : InputState) (start : Option (List ℕ)) → m.right.entry.text.items ≢ []
      → entry_in m.left.entry ≡ entry_in m.right.entry → Merging m dl el dr er start a.taken
      → BothDue n dl el dr er start b.taken

abbrev pub RightWritten : Merge → Merge → OutputState → OutputState → Type 0
RightWritten m n a b =
    (dl el dr er : InputState) (start : Option (List ℕ)) → IsRightBelow m → Merging m dl el dr er start a.taken
    → RightDue n dl el dr er start b.taken

-- the writer's fault halts it
pub record LeftWriteHalts (fault : MergeFault) (m n : Merge) (a b : OutputState) : Type 0 where
  pub less : (dl el dr er : InputState) (start : Option (List ℕ)) → IsLeftBelow m
      → Merging m dl el dr er start a.taken → Halted fault n.held dl el dr er start b.taken
  pub equal : (dl el dr er : InputState) (start : Option (List ℕ)) → m.right.entry.text.items ≢ []
      → entry_in m.left.entry ≡ entry_in m.right.entry → Merging m dl el dr er start a.taken
      → Halted fault n.held dl el dr er start b.taken

abbrev pub RightWriteHalts : MergeFault → Merge → Merge → OutputState → OutputState → Type 0
RightWriteHalts fault m n a b =
    (dl el dr er : InputState) (start : Option (List ℕ)) → IsRightBelow m → Merging m dl el dr er start a.taken
    → Halted fault n.held dl el dr er start b.taken

-- ---- the next entry is joined, or all are

-- a fault is of the device that failed
pub record TellsDevice {X : Type 0} (r : Result X MergeFault) (el fl er fr : InputState) (a b : OutputState) : Type 0 where
  pub left : LeftFailures r el.failures fl.failures
  pub right : RightFailures r er.failures fr.failures
  pub writer : WriteFailed r a.failures b.failures
  pub not_memory : ¬ (IsErrOf r Memory)

-- one entry more is joined, or a fault halts
abbrev pub IsTurned : Merge → Merge → InputState → InputState → InputState → InputState → OutputState → OutputState → Type 0
IsTurned m n el fl er fr a b =
    (dl dr : InputState) (start : Option (List ℕ)) → Merging m dl el dr er start a.taken
    → Merging n dl fl dr fr start b.taken

abbrev pub TurnHalts : MergeFault → Merge → Merge → InputState → InputState → InputState → InputState → OutputState
    → OutputState → Type 0
TurnHalts fault m n el fl er fr a b =
    (dl dr : InputState) (start : Option (List ℕ)) → Merging m dl el dr er start a.taken
    → Halted fault n.held dl fl dr fr start b.taken

-- all entries are joined, or a fault halts
abbrev pub AreJoined : Merge → Merge → InputState → InputState → InputState → InputState → OutputState → OutputState → Type 0
AreJoined m n el fl er fr a b =
    (dl dr : InputState) (start : Option (List ℕ)) → BothDue m dl el dr er start a.taken
    → Merging n dl fl dr fr start b.taken

abbrev pub JoinHalts : MergeFault → Merge → Merge → InputState → InputState → InputState → InputState → OutputState
    → OutputState → Type 0
JoinHalts fault m n el fl er fr a b =
    (dl dr : InputState) (start : Option (List ℕ)) → BothDue m dl el dr er start a.taken
    → Halted fault n.held dl fl dr fr start b.taken

-- ---- what is held back is written

-- all that was joined is written, and before a fault so much of it
pub record IsFinished (m : Merge) (a b : OutputState) (n : ℕ) : Type 0 where
  pub joined : (dl el dr er : InputState) (start : Option (List ℕ)) → rank m ≡ 0
      → Merging m dl el dr er start a.taken → Joined dl el dr er start b.taken n
  pub halted : (fault : MergeFault) (dl el dr er : InputState) (start : Option (List ℕ)) → IsNotWrite fault
      → Halted fault m.held dl el dr er start a.taken → Stopped fault dl el dr er start b.taken

pub record FinishFails (fault : MergeFault) (m : Merge) (a b : OutputState) : Type 0 where
  pub stopped : (dl el dr er : InputState) (start : Option (List ℕ)) → HasRoom m
      → Merging m dl el dr er start a.taken → Stopped fault dl el dr er start b.taken
  pub halted : (before : MergeFault) (dl el dr er : InputState) (start : Option (List ℕ)) → IsNotWrite before
      → Halted before m.held dl el dr er start a.taken → Stopped fault dl el dr er start b.taken

-- ---- the whole run

-- a device's fault is told only where that device failed, and where it failed it is told, or the fault of the writer
pub record TellsFailures {X : Type 0} (r : Result X MergeFault) (dl el dr er : InputState) (a b : OutputState) : Type 0 where
  pub left : LeftReadFailed r dl.failures el.failures
  pub right : RightReadFailed r dr.failures er.failures
  pub writer : WriteFailed r a.failures b.failures
  pub read_left : dl.failures < 2 ^ 63 → IsErrOf r (Read side_Left) → dl.failures < el.failures
  pub read_right : dr.failures < 2 ^ 63 → IsErrOf r (Read side_Right) → dr.failures < er.failures

-- the two were joined from their starts, or a fault stopped it
abbrev pub RunJoins : Merge → InputState → InputState → InputState → InputState → OutputState → OutputState → ℕ → Type 0
RunJoins m el fl er fr a b n =
    (dl dr : InputState) (start : Option (List ℕ)) → BothDue m dl el dr er start a.taken
    → Joined dl fl dr fr start b.taken n

abbrev pub RunStops : MergeFault → Merge → InputState → InputState → InputState → InputState → OutputState → OutputState
    → Type 0
RunStops fault m el fl er fr a b =
    (dl dr : InputState) (start : Option (List ℕ)) → BothDue m dl el dr er start a.taken
    → Stopped fault dl fl dr fr start b.taken
