-- Octets as they are shown in a line.
use Rattle.std.specs.Prelude.{ℕ, ◌+◌, ◌/◌, ◌%◌, ◌&&◌, ◌==◌, Bool, not, nat_le, nat_lt, List, [], ◌∷◌, if◌then◌else◌}
use Rattle.std.specs.List.{flat_map}

-- a lower-case hexadecimal digit
abbrev pub hex_digit : ℕ → ℕ
hex_digit d = if nat_lt d 10 then 48 + d else 87 + d

-- the printable octets of ASCII, and the space, but for the quotation mark and the backslash
abbrev pub is_plain : ℕ → Bool
is_plain x = nat_le 32 x && nat_le x 126 && not (x == 34) && not (x == 92)

-- such an octet is shown as itself, every other as `\x` and two hexadecimal digits
abbrev pub shown_octet : ℕ → List ℕ
shown_octet x = if is_plain x then x ∷ [] else 92 ∷ 120 ∷ hex_digit (x / 16) ∷ hex_digit (x % 16) ∷ []

abbrev pub shown : List ℕ → List ℕ
shown octets = flat_map shown_octet octets
