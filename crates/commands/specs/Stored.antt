-- Files that a run opens by their names, and what it tells where there is none.
use Rattle.std.specs.Prelude.{◌≡◌, ℕ, List, Option, None, IfSome, IsSome, codes}
use Rattle.octet_devices.specs.Device.{InputState, OutputState}
use Rattle.driver.specs.Devices.{Reports}
use Rattle.driver.specs.declared.status.TheConstants.{FAULT, NO_MEMORY}
use Rattle.commands.specs.Files.{IsUnused}

-- memory ran out before anything was touched, which is told
abbrev pub RanOut : OutputState → OutputState → OutputState → OutputState → ℕ → Type 0
RanOut w w_new n n_new status = (w_new ≡ w) × Reports (codes "want of memory\n") NO_MEMORY n n_new status

-- what the files are known to hold under a name
abbrev pub Stored : Type 0
Stored = Option (List ℕ → Option (List ℕ))

-- a name has no file, which this line tells; nothing is written
abbrev pub LacksFile : Stored → List ℕ → List ℕ → OutputState → OutputState → OutputState → OutputState → ℕ → Type 0
LacksFile stored name line w w_new n n_new status =
    IfSome stored (λ octets. octets name ≡ None) × (w_new ≡ w) × Reports line FAULT n n_new status

-- the reader of a name, which was not called
abbrev pub Opens : Stored → List ℕ → InputState → Type 0
Opens stored name s = IfSome stored (λ octets. IsSome s.left × (octets name ≡ s.left)) × IsUnused s
