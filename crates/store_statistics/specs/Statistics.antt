-- What `stat` does.
use Rattle.std.specs.Prelude.{◌≡◌, ◌⊎◌, ℕ, List, [], ◌∷◌, ◌++◌, Option, Contains, IfSome, IsSome, map}
use Rattle.std.specs.Cmp.Lexicographic.{slice_cmp}
use Rattle.std.specs.List.{AllByRecursion}
use Rattle.std.specs.List.Sorted.{IsStrictlySortedBy}
use Rattle.std.specs.Ordering.{nat_cmp}
use Rattle.octet_language.specs.Language.{Each}
use Rattle.octet_devices.specs.Device.{OutputState}
use Rattle.octet_devices.specs.Transfers.{WroteAll, WrotePart}
use Rattle.disk.specs.States.{Files}
use Rattle.driver.specs.declared.status.TheConstants.{DONE, REFUSED}
use Rattle.driver.specs.Ended.{EndsAs, TellsLine}
use Rattle.store_reading.specs.declared.fault.ReadFault.{ReadFault}
use Rattle.store_reading.specs.declared.fault.ReadFault.TheVariants.{Write}
use Rattle.store_upkeep.specs.Causes.{IsCounted}
use Rattle.store_upkeep.specs.Damages.{AreAsTold, IsToldAt, names_of}
use Rattle.store_upkeep.specs.declared.damage.DamagedFile.{DamagedFile}
use Rattle.store_engine.specs.Lines.{damage_lines}
use Rattle.store_engine.specs.Reading.{read_telling}
use Rattle.store_engine.specs.Verifying.{IsVerifyCause}
use Rattle.store_statistics.specs.Files.{HasFigures}
use Rattle.store_statistics.specs.Lines.{FileLine, IsText}
use Rattle.store_statistics.specs.declared.figures.FileFigures.{FileFigures}
use Rattle.store_statistics.specs.declared.survey.Survey.{Survey}

-- ---- what is told of files

abbrev pub file_names : List FileFigures → List (List ℕ)
file_names fs = map (λ (f : FileFigures). f.name) fs

-- they are in the order of their names, each once
abbrev pub AreInOrder : List FileFigures → Type 0
AreInOrder fs = IsStrictlySortedBy (slice_cmp nat_cmp) (file_names fs)

-- each is a file that counts and is whole, and has its figures
abbrev pub HaveFigures : Files → List FileFigures → Type 0
HaveFigures files fs = AllByRecursion (λ (f : FileFigures). HasFigures files f.name f.figures) fs

-- a file is told of, by its figures or as damaged
abbrev pub IsToldOf : List FileFigures → List DamagedFile → List ℕ → Type 0
IsToldOf fs ds name = Contains (file_names fs) name ⊎ Contains (names_of ds) name

-- so is each file that counts, of those that have such a name
abbrev pub AreToldOf : Files → (List ℕ → Type 0) → List FileFigures → List DamagedFile → Type 0
AreToldOf files Named fs ds = (name : List ℕ) → Named name → IsCounted name → IsSome (files name) → IsToldOf fs ds name

-- so is each file that counts
abbrev pub AreAllTold : Files → List FileFigures → List DamagedFile → Type 0
AreAllTold files fs ds = (name : List ℕ) → IsCounted name → IsSome (files name) → IsToldOf fs ds name

-- ---- a survey

abbrev pub IsEmpty : Survey → Type 0
IsEmpty s = (s.files.items ≡ []) × (s.damaged.items ≡ [])

-- the files that are told of have these figures, and those that are damaged this damage
pub record IsRight (files : Files) (s : Survey) : Type 0 where
  pub figures : HaveFigures files s.files.items
  pub damaged : AreAsTold files s.damaged.items

-- the file of a name was added behind the others, or none was
pub record AddsFile (tells : Type 0) (files : Files) (name : List ℕ) (s t : Survey) : Type 0 where
  pub figures : (t.files.items ≡ s.files.items)
      ⊎ ((f : FileFigures) × (t.files.items ≡ s.files.items ++ f ∷ []) × (f.name ≡ name)
      × (tells → HasFigures files f.name f.figures))
  pub damaged : (t.damaged.items ≡ s.damaged.items)
      ⊎ ((d : DamagedFile) × (t.damaged.items ≡ s.damaged.items ++ d ∷ [])
      × (tells → IsToldAt files d.name d.damage))

-- ---- what is written

-- nothing is told where no file is damaged; else a line on each, in their order
abbrev pub TellsDamaged : List DamagedFile → OutputState → OutputState → ℕ → Type 0
TellsDamaged [] n n_new status = (status ≡ DONE) × (n_new ≡ n)
TellsDamaged (d ∷ ds) n n_new status = TellsLine (damage_lines (d ∷ ds)) REFUSED n n_new status

-- the lines of the files were written, and that of their sums; each file that counts is told of
pub record IsListed (tells : Type 0) (files : Files) (fs : List FileFigures) (ds : List DamagedFile) (told : ℕ)
    (old new : OutputState) (status : ℕ) : Type 0 where
  pub status_is : status ≡ told
  pub text : List ℕ
  pub is : IsText fs text
  pub written : WroteAll old new text
  pub all : tells → AreAllTold files fs ds

-- the lines of the files before a fault were written, but where it is that of the output, a part of what was to be
abbrev pub WritesSome : ReadFault → List FileFigures → OutputState → OutputState → Type 0
WritesSome Write fs old new =
    (text : List ℕ) × (sent : ℕ) × (IsText fs text ⊎ Each FileLine fs text) × WrotePart old new text sent
WritesSome fault fs old new = (text : List ℕ) × Each FileLine fs text × WroteAll old new text

-- What `stat` does, whatever the folder and the devices do; `tells` says that the folder tells its files, `failed` that
-- it has failed. First the damaged files are told, which gives the status unless a fault is told behind them.
pub record RanStat (tells failed : Type 0) (files : Files) (w w_new n n_new : OutputState) (status : ℕ) : Type 0 where
  pub listed : List FileFigures
  pub order : AreInOrder listed
  pub figures : tells → HaveFigures files listed
  pub damaged : List DamagedFile
  pub as_told : tells → AreAsTold files damaged
  pub mid : OutputState
  pub told : ℕ
  pub telling : TellsDamaged damaged n mid told
  pub ending : Option ReadFault
  pub outcome : EndsAs read_telling (IsListed tells files listed damaged told w w_new)
      (λ fault. WritesSome fault listed w w_new) ending mid n_new status
  pub cause : IfSome ending (IsVerifyCause tells failed files)
