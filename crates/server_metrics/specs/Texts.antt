-- Words of the text format of Prometheus, version 0.0.4.
use Rattle.std.specs.Prelude.{ℕ, ◌+◌, ◌/◌, ◌%◌, ◌==◌, List, [], ◌∷◌, ◌++◌, codes, decimal, if◌then◌else◌}
use Rattle.std.specs.List.{flat_map}

-- the end of a sample's line: a space and the value
unfoldable pub number_line : ℕ → List ℕ
number_line value = codes " " ++ (decimal value ++ codes "\n")

-- the last decimal digit of a number, and the last six
abbrev pub last_digit : ℕ → ℕ
last_digit n = 48 + n % 10

abbrev pub six_digits : ℕ → List ℕ
six_digits n =
    last_digit (n / 100000) ∷ last_digit (n / 10000) ∷ last_digit (n / 1000) ∷ last_digit (n / 100) ∷ last_digit (n / 10)
    ∷ last_digit n ∷ []

-- microseconds as seconds with six decimals
unfoldable pub seconds_text : ℕ → List ℕ
seconds_text micros = decimal (micros / 1000000) ++ (codes "." ++ six_digits micros)

-- An octet of a label's value: before a backslash (92) and a double quote (34) stands a backslash, and a line feed (10) is a backslash
-- and the letter n.
abbrev pub escaped_octet : ℕ → List ℕ
escaped_octet octet =
    if octet == 92 then 92 ∷ 92 ∷ [] else if octet == 34 then 92 ∷ 34 ∷ [] else if octet == 10 then 92 ∷ 110 ∷ [] else octet ∷ []

abbrev pub escaped : List ℕ → List ℕ
escaped value = flat_map escaped_octet value

-- a label: its name, and its value in double quotes
unfoldable pub label_text : List ℕ → List ℕ → List ℕ
label_text name value = name ++ (codes "=\"" ++ (escaped value ++ codes "\""))
