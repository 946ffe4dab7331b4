-- What a run on proofs does with the records of a file.
use Rattle.std.specs.Prelude.{◌≡◌, ◌⊎◌, ℕ, List, codes}
use Rattle.octet_devices.specs.Device.{InputState}
use Rattle.driver.specs.Devices.{Devices}
use Rattle.archive_tree.specs.declared.head.TreeHead.{TreeHead}
use Rattle.proof_engine.specs.Proved.{RanProve}
use Rattle.proof_engine.specs.Confirmed.{RanConfirm}
use Rattle.commands.specs.Stored.{LacksFile, Opens, RanOut, Stored}

-- a file of records is opened and read beside the input, as this says of its states; a name without a file is told
abbrev RanBesideFile : (InputState → InputState → Devices → Devices → ℕ → Type 0) → Stored → List ℕ → Devices → Devices → ℕ
    → Type 0
RanBesideFile Ran stored name old new status =
    ((new.input ≡ old.input) × RanOut old.output new.output old.diagnostics new.diagnostics status)
    ⊎ (((new.input ≡ old.input)
    × LacksFile stored name (codes "records no file\n") old.output new.output old.diagnostics new.diagnostics status)
    ⊎ ((r : InputState) × (r_new : InputState) × Opens stored name r × Ran r r_new old new status))

-- the archive on the input, and the records of a file
abbrev pub RanProveFile : Stored → List ℕ → Devices → Devices → ℕ → Type 0
RanProveFile stored name old new status = RanBesideFile RanProve stored name old new status

-- the proofs on the input, and the records of a file
abbrev pub RanConfirmFile : TreeHead → Stored → List ℕ → Devices → Devices → ℕ → Type 0
RanConfirmFile head stored name old new status = RanBesideFile (RanConfirm head) stored name old new status
