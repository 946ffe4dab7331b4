-- Two archives on their way into one, where a fault halts them.
use Rattle.std.specs.Prelude.{ℕ, ◌^◌, ◌<◌, List, Option, length}
use Rattle.std.specs.Io.KnownBytes.{Consumes}
use Rattle.octet_devices.specs.Held.{Carries, Held, StopsWithin}
use Rattle.archive_streams.specs.Joining.{IsPrefixOfAnyUnion}
use Rattle.octet_devices.specs.Device.{InputState}
use Rattle.archive_streams.specs.Pieces.{HasFewCalls}
use Rattle.archive_streams.specs.Stopped.{IsInputFault}
use Rattle.archive_streams.specs.declared.fault.MergeFault.{MergeFault}
use Rattle.archive_streams.specs.declared.fault.MergeFault.TheVariants.{Left, Right, Read, Endless, Write, Memory}

-- of a text the writer took so many octets at its fault; at each other fault the rest is held back
abbrev pub IsUnderWay : MergeFault → Held → Option (List ℕ) → Option (List ℕ) → List ℕ → Type 0
IsUnderWay (Write sent) held start now text = StopsWithin start now text sent
IsUnderWay (Left fault) held start now text = Carries start now held text
IsUnderWay (Right fault) held start now text = Carries start now held text
IsUnderWay (Read side) held start now text = Carries start now held text
IsUnderWay (Endless side) held start now text = Carries start now held text
IsUnderWay Memory held start now text = Carries start now held text

-- a fault that is not the writer's
abbrev pub IsNotWrite : MergeFault → Type 0
IsNotWrite (Write sent) = ⊥
IsNotWrite (Left fault) = Unit {0}
IsNotWrite (Right fault) = Unit {0}
IsNotWrite (Read side) = Unit {0}
IsNotWrite (Endless side) = Unit {0}
IsNotWrite Memory = Unit {0}

-- what was read of the two sides, and the text of what was joined
pub record Halted (fault : MergeFault) (held : Held) (dl el dr er : InputState) (start now : Option (List ℕ)) : Type 0 where
  pub x : List ℕ
  pub y : List ℕ
  pub text : List ℕ
  pub left : Consumes dl.left el.left x
  pub right : Consumes dr.left er.left y
  pub left_calls : HasFewCalls dl el x
  pub right_calls : HasFewCalls dr er y
  pub prefix : IsPrefixOfAnyUnion el.left er.left x y text
  pub short : length text < 2 ^ 64
  pub under_way : IsUnderWay fault held start now text
  pub input : IsInputFault fault dl el dr er x y text
