-- What a call that digests an archive did.
use Rattle.std.specs.Prelude.{◌≡◌, ℕ, ◌<◌, ◌⊎◌, List, Option, length, take}
use Rattle.std.specs.Io.KnownBytes.{Appends}
use Rattle.octet_devices.specs.Device.{InputState}
use Rattle.archive_text.specs.Entries.{Entry}
use Rattle.archive_streams.specs.Entries.{IsWhole}
use Rattle.archive_sets.specs.Selected.{IsReadAt}
use Rattle.archive_sets.specs.declared.fault.SelectFault.{SelectFault}
use Rattle.archive_sets.specs.declared.fault.SelectFault.TheVariants.{Write, Memory}
use Rattle.archive_digest.specs.Digests.{Part, IsDivided, before_last, digest_text, lines_of}
use Rattle.archive_text.specs.declared.period.Period.{Period}

-- an archive was read to its end, and its digest was written, of so many entries
pub record Digested (period : Period) (d e : InputState) (taken_old taken_new : Option (List ℕ)) (n : ℕ)
    : Type 0 where
  pub xs : List Entry
  pub parts : List Part
  pub whole : IsWhole d e xs
  pub divided : IsDivided period xs parts
  pub written : Appends taken_old taken_new (digest_text xs parts)
  pub count : n ≡ length xs

-- what is to be written: the lines of the periods before that of the last entry, and of a whole archive its digest
abbrev pub IsToBeWritten : InputState → InputState → List Entry → List Part → List ℕ → Type 0
IsToBeWritten d e xs parts text = (text ≡ lines_of (before_last parts)) ⊎ (IsWhole d e xs × (text ≡ digest_text xs parts))

-- where the writer failed, it took so many octets of what was to be written, and not all
pub record IsCutAt (sent : ℕ) (d e : InputState) (xs : List Entry) (parts : List Part)
    (taken_old taken_new : Option (List ℕ)) : Type 0 where
  pub text : List ℕ
  pub whose : IsToBeWritten d e xs parts text
  pub some_left : sent < length text
  pub written : Appends taken_old taken_new (take sent text)

-- what was written at a fault: the lines of the periods before that of the last entry, unless the writer failed
abbrev pub IsWrittenAt : SelectFault → InputState → InputState → List Entry → List Part → Option (List ℕ)
    → Option (List ℕ) → Type 0
IsWrittenAt (Write sent) d e xs parts old new = IsCutAt sent d e xs parts old new
IsWrittenAt Memory d e xs parts old new = Unit {0}
IsWrittenAt fault d e xs parts old new = Appends old new (lines_of (before_last parts))

-- a fault stopped it behind these entries
pub record Stopped (period : Period) (fault : SelectFault) (d e : InputState)
    (taken_old taken_new : Option (List ℕ)) : Type 0 where
  pub xs : List Entry
  pub parts : List Part
  pub read : IsReadAt fault d e xs
  pub divided : IsDivided period xs parts
  pub written : IsWrittenAt fault d e xs parts taken_old taken_new
