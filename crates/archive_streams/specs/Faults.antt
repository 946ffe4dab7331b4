-- Why no entry comes next.
use Rattle.std.specs.Prelude.{◌≡◌, ℕ, ◌<◌, List, length, Result, Ok, Err}
use Rattle.octet_devices.specs.Device.{count_on}
use Rattle.octet_devices.specs.declared.loops.TheConstants.{READER_CALLS}
use Rattle.archive_text.specs.Faults.{IsBadFrame, IsFaultBefore}
use Rattle.archive_text.specs.declared.limits.TheConstants.{ENTRY_MAX}
use Rattle.archive_text.specs.Positions.{position_of}
use Rattle.archive_streams.specs.declared.fault.InputFault.TheVariants.{Device, Endless}
use Rattle.archive_streams.specs.declared.fault.SideFault.{SideFault}
use Rattle.archive_streams.specs.declared.fault.SideFault.TheVariants.{Archive, Input}
use Rattle.archive_streams.specs.declared.pieces.Pieces.{Pieces}

-- the octets stop inside an entry or before one
abbrev pub IsCut : List ℕ → Type 0
IsCut rest = IsBadFrame ENTRY_MAX rest (length rest)

-- the octets go on with no entry, and where they stop too early the end was given; or the reader failed,
-- or gave no end in so many calls, inside an entry or before one
abbrev pub IsSideFault : SideFault → List ℕ → Pieces → Type 0
IsSideFault (Archive fault) rest p =
    IsFaultBefore ENTRY_MAX rest fault × (0 < length rest) × (position_of fault ≡ length rest → 0 < p.ends)
IsSideFault (Input Device) rest p = IsCut rest
IsSideFault (Input Endless) rest p = IsCut rest × (p.calls ≡ READER_CALLS) × (p.ends ≡ 0)

-- the reader failed at this fault alone
abbrev pub SideFailures : {X : Type 0} → Result X SideFault → ℕ → ℕ → Type 0
SideFailures (Ok x) old new = new ≡ old
SideFailures (Err (Archive fault)) old new = new ≡ old
SideFailures (Err (Input Device)) old new = new ≡ count_on old
SideFailures (Err (Input Endless)) old new = new ≡ old
