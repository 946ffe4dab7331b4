-- The words that tell how far an input was read.
use Rattle.std.specs.Prelude.{◌*◌, ◌/◌, ◌%◌, ℕ, List, [], ◌∷◌, ◌++◌, codes, decimal, Option, None, Some, length, min, take}
use Rattle.std.specs.Prelude.{nat_le, nat_lt, if◌then◌else◌, ◌&&◌, ◌==◌, ◌-◌, ◌^◌}
use Rattle.progress.specs.declared.line.Told.{Told}
use Rattle.progress.specs.declared.unit.ProgressUnit.{ProgressUnit}
use Rattle.progress.specs.declared.unit.ProgressUnit.TheVariants.{Files, Octets}

-- the name of a unit, in the plural
abbrev pub unit_name : ProgressUnit → List ℕ
unit_name Octets = codes "octets"
unit_name Files = codes "files"

-- a comma, where the digits that follow are threes of digits
abbrev pub comma_before : ℕ → List ℕ
comma_before following = if nat_lt 0 following && following % 3 == 0 then 44 ∷ [] else []

-- digits with a comma before each three of them, counted from the last
abbrev pub with_commas : List ℕ → List ℕ
with_commas [] = []
with_commas (digit ∷ following) = digit ∷ comma_before (length following) ++ with_commas following

-- a number as a line writes it: `12,345,678`
unfoldable pub grouped : ℕ → List ℕ
grouped number = with_commas (decimal number)

-- a number of a program, which stays at the largest that it can be
abbrev pub capped : ℕ → ℕ
capped number = min number (2 ^ 64 - 1)

-- how much of a total was counted, in percent, rounded down; 100 only where all of it was
abbrev pub percent_of : ℕ → ℕ → ℕ
percent_of total count = if nat_le total count then 100 else count * 100 / total

abbrev pub percent_text : ℕ → ℕ → List ℕ
percent_text total count = codes " (" ++ decimal (percent_of total count) ++ codes " %)"

-- a number, and the name of its unit
abbrev pub counted_text : ProgressUnit → ℕ → List ℕ
counted_text unit number = grouped number ++ codes " " ++ unit_name unit

-- how many were counted, of how many if that is known
abbrev pub count_text : ProgressUnit → Option ℕ → ℕ → List ℕ
count_text unit None count = counted_text unit count
count_text unit (Some total) count =
    grouped count ++ codes " of " ++ counted_text unit total ++ percent_text total count

-- how many were counted each second, rounded down; 0 where no time passed
abbrev pub rate_of : ℕ → ℕ → ℕ
rate_of count micros = if micros == 0 then 0 else capped (count * 1000000 / micros)

-- a rate, unless it is less than one
abbrev pub rate_text : ProgressUnit → ℕ → List ℕ
rate_text unit rate = if rate == 0 then [] else codes ", " ++ counted_text unit rate ++ codes "/s"

-- the words of a line: `12,345,678 of 98,765,432 octets (12 %), 81,000,000 octets/s`
unfoldable pub line_text : Told → List ℕ
line_text told = count_text told.unit told.total told.count ++ rate_text told.unit (rate_of told.count told.micros)

-- a carriage return, at most 79 columns of the words, and `ESC [ K`, which clears what stood behind them
abbrev pub drawing : Told → List ℕ
drawing told = 13 ∷ take 79 (line_text told) ++ 27 ∷ codes "[K"
