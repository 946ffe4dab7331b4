-- Lines are put.
use Rattle.std.proofs.Common.{◌≡◌, List, ℕ, [], ◌∷◌, ◌++◌, refl, subst, sym, ap, ◌∙◌}
use Rattle.std.specs.Prelude.{Result}
use Rattle.octet_language.specs.Language.{Each, Language, Only, ◌⋅◌}
use Rattle.syslog_fields.specs.Appending.{Adds, Puts}
use Rattle.syslog_fields.proofs.Appends.{adds_nothing, adds_then, only_then}
use Rattle.archive_counts.specs.Texts.{FrontOf}
use Rattle.archive_counts.proofs.Texts.{line_puts}
use Rattle.store_statistics.specs.Lines.{FiguresLine, FileLine, IsText}
use Rattle.store_statistics.specs.Sums.{AreSums}
use Rattle.store_statistics.specs.declared.figures.FileFigures.{FileFigures}
use Rattle.store_statistics.specs.declared.figures.Figures.{Figures}

abbrev pub FrontFor : Figures → Language
FrontFor f = FrontOf f.tally.records f.octets f.tally.first f.tally.last

pub file_puts : {X E : Type 0} (f : FileFigures) (o m1 m2 m3 n : List ℕ) (r : Result X E)
    → Adds (FrontFor f.figures) o m1 → Adds (Only (32 ∷ [])) m1 m2 → Adds (Only f.name) m2 m3
    → Puts (Only (10 ∷ [])) m3 n r → Puts (FileLine f) o n r
file_puts f o m1 m2 m3 n r front space name end =
    let g = f.figures in
    line_puts g.tally.records g.octets g.tally.first g.tally.last (32 ∷ f.name) o m1 m3 n r front
    (only_then (32 ∷ []) f.name m1 m2 m3 space name) end

pub sums_puts : {X E : Type 0} (g : Figures) (o m n : List ℕ) (r : Result X E) → Adds (FrontFor g) o m
    → Puts (Only (10 ∷ [])) m n r → Puts (FiguresLine g []) o n r
sums_puts g o m n r front end =
    line_puts g.tally.records g.octets g.tally.first g.tally.last [] o m m n r front (adds_nothing (Only []) m refl) end

pub from_none : (L : Language) (old new : List ℕ) → old ≡ [] → Adds L old new → L new
from_none L old new none (text, is, all) =
    subst L (sym (all ∙ ap (λ (l : List ℕ). l ++ text) none)) is

pub text_of_all : (fs : List FileFigures) (sum : Figures) (old mid new : List ℕ) → old ≡ [] → AreSums fs sum
    → Adds (Each FileLine fs) old mid → Adds (FiguresLine sum []) mid new → IsText fs new
text_of_all fs sum old mid new none sums lines last = (
  sum,
  sums,
  from_none (Each FileLine fs ⋅ FiguresLine sum []) old new none
      (adds_then (Each FileLine fs) (FiguresLine sum []) old mid new lines last),
)
