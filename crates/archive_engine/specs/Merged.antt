-- What comes of joining two archives.
use Rattle.std.specs.Prelude.{◌≡◌, ℕ, ◌<◌, ◌⊎◌, List, ◌++◌, Option, None, Some, IfSome, Result, Ok, Err, codes, true}
use Rattle.std.specs.Io.KnownBytes.{Appends}
use Rattle.octet_devices.specs.Device.{InputState, OutputState}
use Rattle.archive_text.specs.Entries.{Entry}
use Rattle.archive_text.specs.Faults.{IsArchiveFault}
use Rattle.archive_text.specs.Text.{IsArchive, text_of}
use Rattle.archive_text.specs.declared.fault.ArchiveFault.{ArchiveFault}
use Rattle.archive_text.specs.declared.limits.TheConstants.{ENTRY_MAX}
use Rattle.archive_streams.specs.Joined.{Joined}
use Rattle.archive_streams.specs.Joining.{IsFirstAbove, IsFirstWithin, IsPrefixOfUnion, IsUnion, IsUpToFirst}
use Rattle.archive_streams.specs.Steps.{TellsFailures}
use Rattle.archive_streams.specs.Stopped.{Stopped}
use Rattle.archive_streams.specs.declared.fault.MergeFault.{MergeFault}
use Rattle.archive_streams.specs.declared.fault.MergeFault.TheVariants.{Left, Right, Read, Endless, Write, Memory}
use Rattle.archive_streams.specs.declared.fault.Side.TheVariants.{Left as side_Left, Right as side_Right}
use Rattle.frame_engine.specs.Converted.{goes_out}
use Rattle.driver.specs.Devices.{Reports}
use Rattle.driver.specs.Effects.{Done}
use Rattle.driver.specs.declared.status.TheConstants.{DONE, FAULT, NO_MEMORY, REFUSED}
use Rattle.archive_engine.specs.Answered.{AnswersWith}
use Rattle.archive_reports.specs.FaultLines.{fault_line}

-- both texts are archives, and the text of their union goes out
pub record IsMerged (x y : List ℕ) (d : Done) : Type 0 where
  pub xs : List Entry
  pub ys : List Entry
  pub zs : List Entry
  pub left_archive : IsArchive ENTRY_MAX xs
  pub right_archive : IsArchive ENTRY_MAX ys
  pub left_text : x ≡ text_of xs
  pub right_text : y ≡ text_of ys
  pub union : IsUnion xs ys zs
  pub output : d ≡ goes_out (text_of zs)

-- a refusal whose line is noted, behind what was written
abbrev pub refused_behind : List ℕ → List ℕ → ArchiveFault → Done
refused_behind written name fault = record { refused = true; output = written; diagnostics = fault_line name fault }

-- `x` is no archive, and its fault is noted under this name. Of the members of its front and of the front of what
-- was read of `y`, those that are not above the greatest of its front go out. Where what was read of `y` is no
-- archive too, the fault of `x` comes first
pub record IsRefused (comes_first : List ℕ → List ℕ → Type 0) (name x y : List ℕ) (d : Done) : Type 0 where
  pub fault : ArchiveFault
  pub read : List ℕ
  pub unread : List ℕ
  pub written : List ℕ
  pub fault_is : IsArchiveFault ENTRY_MAX x fault
  pub parts : y ≡ read ++ unread
  pub up_to_front : IsUpToFirst x read written
  pub order : (too : ArchiveFault) → IsArchiveFault ENTRY_MAX read too → comes_first x read
  pub whole : d ≡ refused_behind written name fault

-- the fault of the right comes first where the left has an entry above all of the right's front
abbrev pub IsSecondAbove : List ℕ → List ℕ → Type 0
IsSecondAbove y x = IsFirstAbove x y

-- the union goes out; or the left is refused, or the right
abbrev pub MergeDone : List ℕ → List ℕ → Done → Type 0
MergeDone x y d =
    IsMerged x y d
    ⊎ (IsRefused IsFirstWithin (codes "left") x y d ⊎ IsRefused IsSecondAbove (codes "right") y x d)

-- a prefix of the text of the union of the fronts of two inputs was written: where both are archives, of their union
pub record WritesFronts (x y : List ℕ) (taken_old taken_new : Option (List ℕ)) : Type 0 where
  pub written : List ℕ
  pub taken : Appends taken_old taken_new written
  pub prefix : IsPrefixOfUnion x y written

-- the line on what stopped the joining
abbrev pub merge_line : MergeFault → List ℕ
merge_line (Left fault) = fault_line (codes "left") fault
merge_line (Right fault) = fault_line (codes "right") fault
merge_line (Read side_Left) = codes "left read fault\n"
merge_line (Read side_Right) = codes "right read fault\n"
merge_line (Endless side_Left) = codes "left endless input\n"
merge_line (Endless side_Right) = codes "right endless input\n"
merge_line (Write sent) = codes "write fault\n"
merge_line Memory = codes "want of memory\n"

-- the exit status of what stopped the joining
abbrev pub merge_status : MergeFault → ℕ
merge_status (Left fault) = REFUSED
merge_status (Right fault) = REFUSED
merge_status (Read side) = FAULT
merge_status (Endless side) = FAULT
merge_status (Write sent) = FAULT
merge_status Memory = NO_MEMORY

-- an input is no archive
abbrev pub IsRefusal : MergeFault → Type 0
IsRefusal (Left fault) = Unit {0}
IsRefusal (Right fault) = Unit {0}
IsRefusal (Read side) = ⊥
IsRefusal (Endless side) = ⊥
IsRefusal (Write sent) = ⊥
IsRefusal Memory = ⊥

-- two inputs, an output, and what the diagnostics are written to
pub record MergeDevices : Type 0 where
  pub left : InputState
  pub right : InputState
  pub output : OutputState
  pub diagnostics : OutputState

abbrev pub merge_devices : InputState → InputState → OutputState → OutputState → MergeDevices
merge_devices left right output diagnostics =
    record { left = left; right = right; output = output; diagnostics = diagnostics }

-- what a merge ended with
abbrev pub result_of : Option MergeFault → Result ℕ MergeFault
result_of None = Ok 0
result_of (Some fault) = Err fault

-- how a merge ended: both archives were joined, and nothing was told; or a fault was told by its line
abbrev pub MergeEndsAs : Option MergeFault → MergeDevices → MergeDevices → ℕ → Type 0
MergeEndsAs None old new status = (status ≡ DONE) × (new.diagnostics ≡ old.diagnostics)
    × ((n : ℕ) × Joined old.left new.left old.right new.right old.output.taken new.output.taken n)
MergeEndsAs (Some fault) old new status =
    Reports (merge_line fault) (merge_status fault) old.diagnostics new.diagnostics status
    × Stopped fault old.left new.left old.right new.right old.output.taken new.output.taken

-- memory ran out before anything was touched; or for the line on an input that is no archive
abbrev pub RanOutOfMemory : MergeDevices → MergeDevices → Type 0
RanOutOfMemory old new =
    ((new.left ≡ old.left) × (new.right ≡ old.right) × (new.output ≡ old.output))
    ⊎ ((fault : MergeFault) × IsRefusal fault
    × Stopped fault old.left new.left old.right new.right old.output.taken new.output.taken)

-- what a merge does, whatever the devices do
pub record RanMerge (old new : MergeDevices) (status : ℕ) : Type 0 where
  pub ending : Option MergeFault
  pub outcome : MergeEndsAs ending old new status
  pub memory : ending ≡ Some Memory → RanOutOfMemory old new
  -- a device failed exactly where that is told
  pub failures : TellsFailures (result_of ending) old.left new.left old.right new.right old.output new.output
  -- the text of the union, or the line on why an input is no archive, behind the entries that come before its fault
  pub answer : status < FAULT → IfSome old.left.left (λ x. AnswersWith (MergeDone x) old.right.left status
      old.output.taken new.output.taken old.diagnostics.taken new.diagnostics.taken)
  -- a prefix of the text of the union of the fronts, whatever was read
  pub begins : IfSome old.left.left (λ x. IfSome old.right.left (λ y.
      WritesFronts x y old.output.taken new.output.taken))
