-- What a call that joins two archives did, where a fault stopped it.
use Rattle.std.specs.Prelude.{◌≡◌, ℕ, ◌+◌, ◌^◌, ◌<◌, List, Option, length}
use Rattle.std.specs.Io.KnownBytes.{Appends, Consumes, IsAtEnd}
use Rattle.octet_devices.specs.declared.loops.TheConstants.{READER_CALLS}
use Rattle.archive_text.specs.Faults.{IsArchiveFault}
use Rattle.archive_text.specs.declared.fault.ArchiveFault.{ArchiveFault}
use Rattle.archive_text.specs.declared.limits.TheConstants.{ENTRY_MAX}
use Rattle.archive_streams.specs.Joining.{IsFirstAbove, IsFirstWithin, IsPrefixOfAnyUnion, IsShortOfAnyUnion, IsUpToFirst}
use Rattle.archive_text.specs.Positions.{position_of}
use Rattle.octet_devices.specs.Device.{InputState}
use Rattle.archive_streams.specs.Pieces.{HasFewCalls}
use Rattle.archive_streams.specs.declared.fault.MergeFault.{MergeFault}
use Rattle.archive_streams.specs.declared.fault.MergeFault.TheVariants.{Left, Right, Read, Endless, Write, Memory}
use Rattle.archive_streams.specs.declared.fault.Side.TheVariants.{Left as side_Left, Right as side_Right}

-- a reader gave its end
pub record HasEnded (d e : InputState) : Type 0 where
  pub ends : d.calls < 2 ^ 63 → d.ends < e.ends
  pub none_left : IsAtEnd e.left

-- a reader was called as often as it may be, and did not give its end
pub record HasNoEnd (d e : InputState) : Type 0 where
  pub calls : d.calls < 2 ^ 63 → e.calls ≡ d.calls + READER_CALLS
  pub ends : d.calls < 2 ^ 63 → e.ends ≡ d.ends

-- what a side gave is no archive, for this fault, and of both sides the entries up to the greatest of
-- its front were written; a fault at the end of what it gave is told at its end alone
pub record IsNoArchive (fault : ArchiveFault) (d e : InputState) (given other written : List ℕ) : Type 0 where
  pub fault_is : IsArchiveFault ENTRY_MAX given fault
  pub at_end : position_of fault ≡ length given → HasEnded d e
  pub up_to_front : IsUpToFirst given other written

-- of both sides the entries up to the greatest of the left front were written; where the right is no archive, that is
-- not above the greatest of the right front
abbrev pub IsLeftFirst : List ℕ → List ℕ → List ℕ → Type 0
IsLeftFirst x y written =
    IsUpToFirst x y written × ((too : ArchiveFault) → IsArchiveFault ENTRY_MAX y too → IsFirstWithin x y)

-- the same of the right front; where the left is no archive, its greatest is below that of the left front
abbrev pub IsRightFirst : List ℕ → List ℕ → List ℕ → Type 0
IsRightFirst x y written =
    IsUpToFirst y x written × ((too : ArchiveFault) → IsArchiveFault ENTRY_MAX x too → IsFirstAbove x y)

-- what is known of the two sides at a fault; where both are no archives, the left is told exactly where
-- the greatest of its front is not above that of the right's
abbrev pub IsInputFault : MergeFault → InputState → InputState → InputState → InputState → List ℕ → List ℕ → List ℕ → Type 0
IsInputFault (Left fault) dl el dr er x y written =
    IsNoArchive fault dl el x y written × ((too : ArchiveFault) → IsArchiveFault ENTRY_MAX y too → IsFirstWithin x y)
IsInputFault (Right fault) dl el dr er x y written =
    IsNoArchive fault dr er y x written × ((too : ArchiveFault) → IsArchiveFault ENTRY_MAX x too → IsFirstAbove x y)
IsInputFault (Endless side_Left) dl el dr er x y written = HasNoEnd dl el × IsLeftFirst x y written
IsInputFault (Endless side_Right) dl el dr er x y written = HasNoEnd dr er × IsRightFirst x y written
IsInputFault (Read side_Left) dl el dr er x y written = IsLeftFirst x y written
IsInputFault (Read side_Right) dl el dr er x y written = IsRightFirst x y written
IsInputFault (Write sent) dl el dr er x y written = Unit {0}
IsInputFault Memory dl el dr er x y written = Unit {0}

-- so many octets were written
abbrev pub IsSent : MergeFault → List ℕ → Type 0
IsSent (Write sent) written = sent ≡ length written
IsSent fault written = Unit {0}

-- where the writer failed, it took not all of the text of that union
abbrev pub IsUnsent : MergeFault → Option (List ℕ) → Option (List ℕ) → List ℕ → List ℕ → List ℕ → Type 0
IsUnsent (Write sent) left right x y written = IsShortOfAnyUnion left right x y written
IsUnsent fault left right x y written = Unit {0}

-- the readers gave `x` and `y`; the writer took a prefix of the text of the union of the fronts of all that they have
pub record Stopped (fault : MergeFault) (dl el dr er : InputState) (taken_old taken_new : Option (List ℕ)) : Type 0 where
  pub x : List ℕ
  pub y : List ℕ
  pub written : List ℕ
  pub left : Consumes dl.left el.left x
  pub right : Consumes dr.left er.left y
  pub left_calls : HasFewCalls dl el x
  pub right_calls : HasFewCalls dr er y
  pub taken : Appends taken_old taken_new written
  pub prefix : IsPrefixOfAnyUnion el.left er.left x y written
  pub input : IsInputFault fault dl el dr er x y written
  pub sent : IsSent fault written
  pub unsent : IsUnsent fault el.left er.left x y written
