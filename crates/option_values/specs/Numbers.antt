-- Numbers as words write them.
use Rattle.std.specs.Prelude.{ℕ, Bool, Option, Some, None, ◌&&◌, not, nat_le, ◌==◌, length, if◌then◌else◌}
use Rattle.std.specs.Str.{all_ascii_digits}
use Rattle.std.specs.Str.Parse.{digits_value}
use Rattle.clap.specs.Walk.{Text}
use Rattle.option_values.specs.declared.option_row.Kind.{Kind}
use Rattle.option_values.specs.declared.option_row.Kind.TheVariants as kind

-- decimal digits alone, and at least one
abbrev pub is_numeral : Text → Bool
is_numeral text = all_ascii_digits text && not (length text == 0)

-- the number that decimal digits alone write, where it is one from `first` to `last`
abbrev pub number_in : ℕ → ℕ → Text → Option ℕ
number_in first last text =
    let n = digits_value 10 text in
    if is_numeral text && (nat_le first n && nat_le n last) then Some n else None

-- the number of 64 bits that it writes
abbrev pub size_in : Text → Option ℕ
size_in text = number_in 0 18_446_744_073_709_551_615 text

-- the number that the text writes, in the range of a kind
abbrev pub number_by : Kind → Text → Option ℕ
number_by (kind.Number first last) text = number_in first last text
number_by (kind.Year first last) text = number_in first last text
number_by _ text = None
