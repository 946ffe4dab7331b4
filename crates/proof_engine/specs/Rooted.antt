-- What `root` does.
use Rattle.std.specs.Prelude.{◌≡◌, ℕ, ◌<◌, List, [], ◌∷◌, ◌++◌, Option, Some, decimal, length, take}
use Rattle.std.specs.Io.KnownBytes.{Appends}
use Rattle.hex.specs.Hex.{encode_lower}
use Rattle.octet_devices.specs.Device.{InputState}
use Rattle.archive_text.specs.Entries.{Entry}
use Rattle.archive_streams.specs.Entries.{IsWhole}
use Rattle.archive_sets.specs.Failures.{TellsFailures}
use Rattle.archive_sets.specs.Selected.{IsReadAt}
use Rattle.archive_sets.specs.declared.fault.SelectFault.{SelectFault}
use Rattle.archive_sets.specs.declared.fault.SelectFault.TheVariants.{Write, Memory}
use Rattle.archive_tree.specs.Archives.{IsRootOf}
use Rattle.archive_tree.specs.declared.head.TreeHead.{TreeHead}
use Rattle.driver.specs.Devices.{Devices}
use Rattle.driver.specs.declared.status.TheConstants.{DONE}
use Rattle.driver.specs.Ended.{EndsAs}
use Rattle.set_engine.specs.Selecting.{result_of, select_telling}

-- COUNT ROOT: how many entries there are, and their Merkle tree hash
abbrev pub head_text : TreeHead → List ℕ
head_text head = decimal head.size ++ 32 ∷ encode_lower head.hash ++ 10 ∷ []

-- an archive was read to its end, and the line of its head was written
pub record Rooted (d e : InputState) (taken_old taken_new : Option (List ℕ)) : Type 0 where
  pub xs : List Entry
  pub head : TreeHead
  pub whole : IsWhole d e xs
  pub root : IsRootOf head xs
  pub written : Appends taken_old taken_new (head_text head)

-- the archive was read to its end, and the writer took so many octets of the line, and not all
pub record IsCutAt (sent : ℕ) (d e : InputState) (taken_old taken_new : Option (List ℕ)) : Type 0 where
  pub xs : List Entry
  pub head : TreeHead
  pub whole : IsWhole d e xs
  pub root : IsRootOf head xs
  pub some_left : sent < length (head_text head)
  pub written : Appends taken_old taken_new (take sent (head_text head))

-- it was not read to its end, and nothing was written
pub record IsUnwritten (fault : SelectFault) (d e : InputState) (taken_old taken_new : Option (List ℕ)) : Type 0 where
  pub xs : List Entry
  pub read : IsReadAt fault d e xs
  pub same : taken_new ≡ taken_old

-- a fault stopped it
abbrev pub Stopped : SelectFault → InputState → InputState → Option (List ℕ) → Option (List ℕ) → Type 0
Stopped (Write sent) d e old new = IsCutAt sent d e old new
Stopped Memory d e old new = Unit {0}
Stopped fault d e old new = IsUnwritten fault d e old new

-- the head of the archive on the input was written
abbrev pub IsRooted : Devices → Devices → ℕ → Type 0
IsRooted old new status = (status ≡ DONE) × Rooted old.input new.input old.output.taken new.output.taken

-- what `root` does, whatever the devices do
pub record RanRoot (old new : Devices) (status : ℕ) : Type 0 where
  pub ending : Option SelectFault
  pub outcome : EndsAs select_telling (IsRooted old new)
      (λ fault. Stopped fault old.input new.input old.output.taken new.output.taken) ending old.diagnostics
      new.diagnostics status
  -- a device failed exactly where that is told
  pub failures : TellsFailures (result_of ending) old.input new.input old.output new.output
  -- memory ran out before anything was touched
  pub memory : ending ≡ Some Memory → (new.input ≡ old.input) × (new.output ≡ old.output)
