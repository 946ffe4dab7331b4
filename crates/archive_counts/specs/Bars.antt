-- The lines of a count as bars.
use Rattle.std.specs.Prelude.{◌≡◌, ℕ, ◌+◌, ◌-◌, ◌*◌, ◌≤◌, List, [], ◌∷◌, ◌++◌, decimal, length, max, replicate}
use Rattle.octet_language.specs.Language.{Each, Language}
use Rattle.archive_counts.specs.Lines.{Line, count_of}
use Rattle.archive_counts.specs.Words.{spaced}
use Rattle.archive_counts.specs.declared.rows.Row.{Row}

-- what a bar shows: a count, and words
pub record Shown : Type 0 where
  pub count : ℕ
  pub words : List ℕ

abbrev pub shown_line : Line → Shown
shown_line l = record { count = count_of l; words = spaced l.words }

abbrev pub shown_row : Row → Shown
shown_row r = record { count = r.tally.records; words = r.words.items }

-- the largest of the counts, and the length of the longest words
abbrev pub largest : List Shown → ℕ
largest [] = 0
largest (x ∷ xs) = max x.count (largest xs)

abbrev pub longest : List Shown → ℕ
longest [] = 0
longest (x ∷ xs) = max (length x.words) (longest xs)

-- the columns that are left beside the largest count, a space and the longest words; at least one
abbrev pub room : ℕ → List Shown → ℕ
room columns xs = max 1 (columns - (longest xs + (length (decimal (largest xs)) + 1)))

-- how long a bar is where the largest has all of the room: a count's part of it, rounded up
pub record IsBar (count most room n : ℕ) : Type 0 where
  pub enough : count * room ≤ n * most
  pub least : (m : ℕ) → count * room ≤ m * most → n ≤ m

-- what stands behind a bar: spaces up to the end of the room, and the words, if there are any
abbrev pub behind_bar : ℕ → List ℕ → List ℕ
behind_bar left [] = []
behind_bar left (x ∷ xs) = replicate left 32 ++ x ∷ xs

-- a count behind spaces, so that all counts end in one column; a space, the bar, and what stands behind it
abbrev pub BarText : ℕ → ℕ → Shown → Language
BarText most room x text = (n : ℕ) × IsBar x.count most room n
    × (text ≡ replicate (length (decimal most) - length (decimal x.count)) 32 ++ decimal x.count
    ++ 32 ∷ replicate n 35 ++ behind_bar (room - n) x.words ++ 10 ∷ [])

abbrev pub BarsText : ℕ → List Shown → Language
BarsText columns xs = Each (BarText (largest xs) (room columns xs)) xs
