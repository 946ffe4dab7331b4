-- What was read of many inputs, each list in their order. The front of octets is their longest prefix that is an
-- archive.
use Rattle.std.specs.Prelude.{ℕ, zero, suc, List, [], ◌∷◌, ◌++◌}
use Rattle.std.specs.List.{AllByRecursion}
use Rattle.std.specs.Io.KnownBytes.{Consumes}
use Rattle.octet_devices.specs.Device.{InputState}
use Rattle.archive_text.specs.Entries.{Entry, Has, IsBelow}
use Rattle.archive_text.specs.Faults.{IsArchiveFault, IsLongestArchive}
use Rattle.archive_text.specs.declared.fault.ArchiveFault.{ArchiveFault}
use Rattle.archive_text.specs.declared.limits.TheConstants.{ENTRY_MAX}
use Rattle.archive_streams.specs.Entries.{IsCutShort, IsWhole}
use Rattle.archive_streams.specs.Joining.{IsWithin, MayFollow}
use Rattle.archive_streams.specs.Pieces.{HasFewLargeCalls}
use Rattle.archive_streams.specs.declared.fault.SideFault.{SideFault}

-- each gave its end, and all that it gave is the archive of these entries
abbrev pub AreWhole : List InputState → List InputState → List (List Entry) → Type 0
AreWhole [] [] [] = Unit {0}
AreWhole (d ∷ ds) (e ∷ es) (xs ∷ xss) = IsWhole d e xs × AreWhole ds es xss
AreWhole ds es xss = ⊥

-- a reader that stood at `d` gave these octets, in so few calls
pub record HasGiven (d e : InputState) (given : List ℕ) : Type 0 where
  pub consumed : Consumes d.left e.left given
  pub few : HasFewLargeCalls d e given

-- each gave these octets
abbrev pub AreGiven : List InputState → List InputState → List (List ℕ) → Type 0
AreGiven [] [] [] = Unit {0}
AreGiven (d ∷ ds) (e ∷ es) (given ∷ all) = HasGiven d e given × AreGiven ds es all
AreGiven ds es all = ⊥

-- the front of an input that gave these octets may have these entries, by what may follow them
abbrev pub MayBeFront : InputState → List ℕ → List Entry → Type 0
MayBeFront e given fs =
    (more rest : List ℕ) × MayFollow e.left more × IsLongestArchive ENTRY_MAX (given ++ more) fs rest

-- so may those of all
abbrev pub MayBeFronts : List InputState → List (List ℕ) → List (List Entry) → Type 0
MayBeFronts [] [] [] = Unit {0}
MayBeFronts (e ∷ es) (given ∷ all) (fs ∷ fss) = MayBeFront e given fs × MayBeFronts es all fss
MayBeFronts es all fss = ⊥

-- no entry comes next in the input of this number, and these are the entries of the front of what it gave
abbrev pub IsCutAt : SideFault → ℕ → List InputState → List InputState → List Entry → Type 0
IsCutAt fault zero (d ∷ ds) (e ∷ es) xs = IsCutShort fault d e xs
IsCutAt fault (suc input) (d ∷ ds) (e ∷ es) xs = IsCutAt fault input ds es xs
IsCutAt fault input [] es xs = ⊥
IsCutAt fault input (d ∷ ds) [] xs = ⊥

-- where octets are no archive, no entry of a list is above the greatest of their front
abbrev pub ReachesAsFar : List Entry → List ℕ → Type 0
ReachesAsFar ws given =
    (fault : ArchiveFault) (fs : List Entry) (rest : List ℕ) → IsArchiveFault ENTRY_MAX given fault
    → IsLongestArchive ENTRY_MAX given fs rest → (w : Entry) → Has ws w → IsWithin fs w

-- or an entry of their front is above all of the list
abbrev pub ReachesFarther : List Entry → List ℕ → Type 0
ReachesFarther ws given =
    (fault : ArchiveFault) (fs : List Entry) (rest : List ℕ) → IsArchiveFault ENTRY_MAX given fault
    → IsLongestArchive ENTRY_MAX given fs rest → (m : Entry) × Has fs m × ((w : Entry) → Has ws w → IsBelow w m)

-- of inputs that are no archives, each behind that of this number reaches as far as these entries, and each before it
-- farther
abbrev pub IsMetFirst : ℕ → List Entry → List (List ℕ) → Type 0
IsMetFirst input ws [] = ⊥
IsMetFirst zero ws (x ∷ given) = AllByRecursion (ReachesAsFar ws) given
IsMetFirst (suc input) ws (x ∷ given) = ReachesFarther ws x × IsMetFirst input ws given
