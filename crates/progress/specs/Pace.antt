-- What was counted, when a line is due, and what draws it.
use Rattle.std.specs.Prelude.{◌+◌, ◌-◌, ◌≤◌, ℕ, List, [], ◌∷◌, codes, Option, None, Some, option_map, false, true}
use Rattle.std.specs.Prelude.{if◌then◌else◌}
use Rattle.progress.specs.Line.{capped, percent_of}
use Rattle.progress.specs.declared.line.Told.{Told}
use Rattle.progress.specs.declared.pace.Progress.{Progress}
use Rattle.progress.specs.declared.unit.ProgressUnit.{ProgressUnit}

-- nothing was counted at the beginning, and nothing is expected
abbrev pub begun : ProgressUnit → ℕ → Progress
begun unit now = record { unit = unit; count = 0; total = Some 0; since = now; last = now; stands = false }

-- a total with so many more; unknown, where either is
abbrev pub with_more : Option ℕ → Option ℕ → Option ℕ
with_more (Some total) (Some more) = Some (capped (total + more))
with_more (Some total) None = None
with_more None more = None

-- how much of what is expected was read, where that is known
abbrev pub percent_told : Progress → Option ℕ
percent_told p = option_map (λ total. percent_of total p.count) p.total

-- half a second passed since the last line, or since the beginning
abbrev pub IsDue : Progress → ℕ → Type 0
IsDue p now = p.last + 500000 ≤ now

-- what the line tells at a time
abbrev pub told_at : Progress → ℕ → Told
told_at p now = record { unit = p.unit; count = p.count; total = p.total; micros = now - p.since }

-- a line was drawn at this time
abbrev pub drawn : ℕ → Progress → Progress
drawn now p = record p { last = now; stands = true }

-- a carriage return and `ESC [ K`, where a line stands
abbrev pub clearing : Progress → List ℕ
clearing p = if p.stands then 13 ∷ 27 ∷ codes "[K" else []
