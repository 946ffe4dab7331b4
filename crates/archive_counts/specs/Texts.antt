-- The text of lines.
use Rattle.std.specs.Prelude.{◌≡◌, ℕ, ℤ, List, [], ◌∷◌, ◌++◌, Option, decimal}
use Rattle.octet_language.specs.Language.{Language}
use Rattle.syslog_fields.specs.Canonical.{TimeForm}
use Rattle.archive_counts.specs.Lines.{Line, count_of, octets_of}
use Rattle.archive_counts.specs.Tallies.{IsTallyOf}
use Rattle.archive_counts.specs.Words.{AreSpaced, spaced}
use Rattle.archive_counts.specs.declared.key.CountKey.{CountKey}
use Rattle.archive_counts.specs.declared.rows.Row.{Row}

-- two instants in canonical form, or NILVALUE
pub record AreTimes (first last : Option ℤ) (from to : List ℕ) : Type 0 where
  pub first_form : TimeForm first from
  pub last_form : TimeForm last to

-- COUNT OCTETS FIRST LAST
abbrev pub FrontOf : ℕ → ℕ → Option ℤ → Option ℤ → Language
FrontOf count octets first last text = (from : List ℕ) × (to : List ℕ) × AreTimes first last from to
    × (text ≡ decimal count ++ 32 ∷ decimal octets ++ 32 ∷ from ++ 32 ∷ to)

-- with the words, each behind a space, and a line feed
abbrev pub PlainLine : ℕ → ℕ → Option ℤ → Option ℤ → List ℕ → Language
PlainLine count octets first last words text =
    (front : List ℕ) × FrontOf count octets first last front × (text ≡ front ++ words ++ 10 ∷ [])

-- COUNT OCTETS FIRST LAST KEY..
abbrev pub LineText : Line → Language
LineText l = PlainLine (count_of l) (octets_of l) l.first l.last (spaced l.words)

-- ---- from rows

-- the row has what the line tells
pub record IsRowFor (keys : List CountKey) (r : Row) (l : Line) : Type 0 where
  pub words : AreSpaced keys l.words r.words.items
  pub tally : IsTallyOf r.tally l.entries
  pub first : r.tally.first ≡ l.first
  pub last : r.tally.last ≡ l.last

abbrev pub AreRowsFor : List CountKey → List Row → List Line → Type 0
AreRowsFor keys [] ls = ls ≡ []
AreRowsFor keys (r ∷ rs) [] = ⊥
AreRowsFor keys (r ∷ rs) (l ∷ ls) = IsRowFor keys r l × AreRowsFor keys rs ls

-- the line that a row is told by
abbrev pub RowText : Row → Language
RowText r = PlainLine r.tally.records r.tally.octets r.tally.first r.tally.last r.words.items
