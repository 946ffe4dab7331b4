-- The lines of `stat`.
use Rattle.std.specs.Prelude.{ℕ, List, [], ◌∷◌}
use Rattle.octet_language.specs.Language.{Each, Language, ◌⋅◌}
use Rattle.archive_counts.specs.Texts.{PlainLine}
use Rattle.store_statistics.specs.Sums.{AreSums}
use Rattle.store_statistics.specs.declared.figures.FileFigures.{FileFigures}
use Rattle.store_statistics.specs.declared.figures.Figures.{Figures}

-- COUNT OCTETS FIRST LAST, with words, each behind a space, and a line feed
abbrev pub FiguresLine : Figures → List ℕ → Language
FiguresLine f words = PlainLine f.tally.records f.octets f.tally.first f.tally.last words

-- with the name of the file
abbrev pub FileLine : FileFigures → Language
FileLine f = FiguresLine f.figures (32 ∷ f.name)

-- a line for each file, and the line of their sums
abbrev pub IsText : List FileFigures → List ℕ → Type 0
IsText fs text = (sum : Figures) × AreSums fs sum × (Each FileLine fs ⋅ FiguresLine sum []) text
