-- Runs, each the text of an archive, and the set that they hold together with other entries.
use Rattle.std.specs.Prelude.{◌≡◌, ◌↔◌, List, [], ◌∷◌, Some}
use Rattle.octet_devices.specs.Device.{InputState}
use Rattle.archive_text.specs.Entries.{Entry, Has}
use Rattle.archive_text.specs.Text.{IsArchive, text_of}
use Rattle.archive_text.specs.declared.limits.TheConstants.{ENTRY_MAX}
use Rattle.archive_join.specs.Holders.{IsHeld}

-- what is left to read of a run is the archive of these entries
abbrev pub IsRunOf : InputState → List Entry → Type 0
IsRunOf d xs = (d.left ≡ Some (text_of xs)) × IsArchive ENTRY_MAX xs

-- the same of each
abbrev pub AreRunsOf : List InputState → List (List Entry) → Type 0
AreRunsOf [] [] = Unit {0}
AreRunsOf [] (xs ∷ xss) = ⊥
AreRunsOf (d ∷ ds) [] = ⊥
AreRunsOf (d ∷ ds) (xs ∷ xss) = IsRunOf d xs × AreRunsOf ds xss

-- a list has just what some of the others have
abbrev pub AreUnited : List (List Entry) → List Entry → Type 0
AreUnited xss ys = (e : Entry) → Has ys e ↔ IsHeld xss e

-- two lists have the same members, and so are one set
abbrev pub AreSame : List Entry → List Entry → Type 0
AreSame es ys = (e : Entry) → Has es e ↔ Has ys e

-- a set whose members are those of the pages and of the runs
pub record AreKeptIn (ds : List InputState) (pages es : List Entry) : Type 0 where
  pub xss : List (List Entry)
  pub runs : AreRunsOf ds xss
  pub members : AreUnited (pages ∷ xss) es
