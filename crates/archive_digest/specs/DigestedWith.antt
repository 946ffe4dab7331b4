-- What a call did that digests an archive with or without roots.
use Rattle.std.specs.Prelude.{◌≡◌, ℕ, ◌<◌, ◌⊎◌, List, Option, length, take}
use Rattle.std.specs.Io.KnownBytes.{Appends}
use Rattle.octet_devices.specs.Device.{InputState}
use Rattle.archive_text.specs.Entries.{Entry}
use Rattle.archive_streams.specs.Entries.{IsWhole}
use Rattle.archive_sets.specs.Selected.{IsReadAt}
use Rattle.archive_sets.specs.declared.fault.SelectFault.{SelectFault}
use Rattle.archive_sets.specs.declared.fault.SelectFault.TheVariants.{Write, Memory}
use Rattle.archive_digest.specs.Digests.{Part, IsDivided, before_last, digest_with, lines_with}
use Rattle.archive_digest.specs.declared.roots.Roots.{Roots}
use Rattle.archive_text.specs.declared.period.Period.{Period}

-- an archive was read to its end, and its digest was written, of so many entries
pub record DigestedWith (roots : Roots) (period : Period) (d e : InputState) (taken_old taken_new : Option (List ℕ))
    (n : ℕ) : Type 0 where
  pub xs : List Entry
  pub parts : List Part
  pub whole : IsWhole d e xs
  pub divided : IsDivided period xs parts
  pub written : Appends taken_old taken_new (digest_with roots xs parts)
  pub count : n ≡ length xs

-- what is to be written: the lines of the periods before that of the last entry, and of a whole archive its digest
abbrev pub IsToBeWritten : Roots → InputState → InputState → List Entry → List Part → List ℕ → Type 0
IsToBeWritten roots d e xs parts text =
    (text ≡ lines_with roots (before_last parts)) ⊎ (IsWhole d e xs × (text ≡ digest_with roots xs parts))

-- where the writer failed, it took so many octets of what was to be written, and not all
pub record IsCutAt (roots : Roots) (sent : ℕ) (d e : InputState) (xs : List Entry) (parts : List Part)
    (taken_old taken_new : Option (List ℕ)) : Type 0 where
  pub text : List ℕ
  pub whose : IsToBeWritten roots d e xs parts text
  pub some_left : sent < length text
  pub written : Appends taken_old taken_new (take sent text)

-- what was written at a fault: the lines of the periods before that of the last entry, unless the writer failed
abbrev pub IsWrittenAt : Roots → SelectFault → InputState → InputState → List Entry → List Part → Option (List ℕ)
    → Option (List ℕ) → Type 0
IsWrittenAt roots (Write sent) d e xs parts old new = IsCutAt roots sent d e xs parts old new
IsWrittenAt roots Memory d e xs parts old new = Unit {0}
IsWrittenAt roots fault d e xs parts old new = Appends old new (lines_with roots (before_last parts))

-- a fault stopped it behind these entries
pub record StoppedWith (roots : Roots) (period : Period) (fault : SelectFault) (d e : InputState)
    (taken_old taken_new : Option (List ℕ)) : Type 0 where
  pub xs : List Entry
  pub parts : List Part
  pub read : IsReadAt fault d e xs
  pub divided : IsDivided period xs parts
  pub written : IsWrittenAt roots fault d e xs parts taken_old taken_new
