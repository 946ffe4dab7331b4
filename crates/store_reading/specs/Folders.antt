-- What a folder's files are, and what one gives that is opened.
use Rattle.std.specs.Prelude.{◌≡◌, ◌↔◌, ℕ, List, Some, IsSome, IsSomeAnd, Contains}
use Rattle.disk.specs.States.{Files}
use Rattle.octet_devices.specs.Device.{InputState}

-- the names that have a file
abbrev pub AreNamesOf : Files → List (List ℕ) → Type 0
AreNamesOf files names = (name : List ℕ) → Contains names name ↔ IsSome (files name)

-- an input that was not called yet
pub record IsUnused (s : InputState) : Type 0 where
  pub calls : s.calls ≡ 0
  pub failures : s.failures ≡ 0
  pub ends : s.ends ≡ 0

-- there is a file under the name, and its octets are left
abbrev pub Opens : Files → List ℕ → InputState → Type 0
Opens files name s = IsSomeAnd (files name) (λ octets. s.left ≡ Some octets)
