-- What is told of all files together.
use Rattle.std.specs.Prelude.{◌≡◌, ℕ, ◌+◌, ℤ, List, [], ◌∷◌, Option, map}
use Rattle.octet_devices.specs.Held.{counted}
use Rattle.store_statistics.specs.Times.{IsFirstOf, IsLastOf}
use Rattle.store_statistics.specs.declared.figures.FileFigures.{FileFigures}
use Rattle.store_statistics.specs.declared.figures.Figures.{Figures}

-- how many records files have
abbrev pub records_in : List FileFigures → ℕ
records_in [] = 0
records_in (f ∷ fs) = f.figures.tally.records + records_in fs

-- how many octets
abbrev pub octets_in : List FileFigures → ℕ
octets_in [] = 0
octets_in (f ∷ fs) = f.figures.octets + octets_in fs

-- the earliest times of each, and the latest
abbrev pub firsts : List FileFigures → List (Option ℤ)
firsts fs = map (λ (f : FileFigures). f.figures.tally.first) fs

abbrev pub lasts : List FileFigures → List (Option ℤ)
lasts fs = map (λ (f : FileFigures). f.figures.tally.last) fs

-- the sums of files, kept at the largest number of 64 bits; the earliest of their times, and the latest
pub record AreSums (fs : List FileFigures) (sum : Figures) : Type 0 where
  pub records : sum.tally.records ≡ counted (records_in fs)
  pub octets : sum.octets ≡ counted (octets_in fs)
  pub first : IsFirstOf (firsts fs) sum.tally.first
  pub last : IsLastOf (lasts fs) sum.tally.last
