-- What a call that joins archives did.
use Rattle.std.specs.Prelude.{◌≡◌, ℕ, Bool, List, Option, length, MatchResult, Result}
use Rattle.std.specs.Io.KnownBytes.{Appends}
use Rattle.octet_devices.specs.Device.{InputState}
use Rattle.octet_devices.specs.Held.{StopsWithin, counted}
use Rattle.archive_text.specs.Entries.{Entry}
use Rattle.archive_streams.specs.declared.fault.InputFault.TheVariants.{Device, Endless as input_Endless}
use Rattle.archive_streams.specs.declared.fault.SideFault.TheVariants.{Archive as side_Archive, Input}
use Rattle.archive_join.specs.Holders.{AreKept, AreKeptUpTo, kept_text}
use Rattle.archive_join.specs.Inputs.{AreGiven, AreWhole, IsCutAt, IsMetFirst, MayBeFronts}
use Rattle.archive_join.specs.declared.fault.JoinFault.{JoinFault}
use Rattle.archive_join.specs.declared.fault.JoinFault.TheVariants.{Archive, Read, Endless, Write, Memory}

-- all archives were read to their ends, and what is kept of their entries was written, of so many
pub record Joined (keeps : List Bool → Type 0) (text : List Bool → Entry → List ℕ) (ds es : List InputState)
    (taken_old taken_new : Option (List ℕ)) (n : ℕ) : Type 0 where
  pub xss : List (List Entry)
  pub ys : List Entry
  pub whole : AreWhole ds es xss
  pub kept : AreKept keeps xss ys
  pub written : Appends taken_old taken_new (kept_text text xss ys)
  pub count : n ≡ counted (length ys)

-- why an input's fault is told: of this input, whose front has these entries
abbrev pub IsCauseIn : JoinFault → List InputState → List InputState → List Entry → Type 0
IsCauseIn (Archive input fault) ds es front = IsCutAt (side_Archive fault) input ds es front
IsCauseIn (Read input) ds es front = IsCutAt (Input Device) input ds es front
IsCauseIn (Endless input) ds es front = IsCutAt (Input input_Endless) input ds es front
IsCauseIn (Write sent) ds es front = Unit {0}
IsCauseIn Memory ds es front = Unit {0}

-- it is the first one in the order in which entries are joined and inputs are read
abbrev pub IsFirstFault : JoinFault → List Entry → List (List ℕ) → Type 0
IsFirstFault (Archive input fault) front given = IsMetFirst input front given
IsFirstFault (Read input) front given = IsMetFirst input front given
IsFirstFault (Endless input) front given = IsMetFirst input front given
IsFirstFault (Write sent) front given = Unit {0}
IsFirstFault Memory front given = Unit {0}

-- these octets were given; and whatever follows them, of the entries that are kept then those that are not above the
-- greatest of a list are written so. At an input's fault the list is the front of that input
pub record StopsUpTo (keeps : List Bool → Type 0) (text : List Bool → Entry → List ℕ) (fault : JoinFault)
    (ds es : List InputState) (IsWritten : List ℕ → Type 0) : Type 0 where
  pub given : List (List ℕ)
  pub bound : List Entry
  pub read : AreGiven ds es given
  pub cause : IsCauseIn fault ds es bound
  pub first : IsFirstFault fault bound given
  pub written : (xss : List (List Entry)) → MayBeFronts es given xss
      → (ys : List Entry) × AreKeptUpTo keeps xss bound ys × IsWritten (kept_text text xss ys)

-- what was written of a text at a fault: all of it; where the writer failed, so many octets, and not all
abbrev pub IsWrittenAt : JoinFault → Option (List ℕ) → Option (List ℕ) → List ℕ → Type 0
IsWrittenAt (Write sent) old new text = StopsWithin old new text sent
IsWrittenAt fault old new text = Appends old new text

-- a fault stopped it
abbrev pub Stopped : (List Bool → Type 0) → (List Bool → Entry → List ℕ) → JoinFault → List InputState
    → List InputState → Option (List ℕ) → Option (List ℕ) → Type 0
Stopped keeps text fault ds es taken_old taken_new =
    StopsUpTo keeps text fault ds es (IsWrittenAt fault taken_old taken_new)

-- all archives whole, and what is kept of their entries; or what a fault says of what was read and written
abbrev pub JoinedOrStopped : (List Bool → Type 0) → (List Bool → Entry → List ℕ) → Result ℕ JoinFault
    → List InputState → List InputState → Option (List ℕ) → Option (List ℕ) → Type 0
JoinedOrStopped keeps text r ds es taken_old taken_new =
    MatchResult r (λ n. Joined keeps text ds es taken_old taken_new n)
    (λ fault. Stopped keeps text fault ds es taken_old taken_new)
