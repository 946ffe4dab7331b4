-- Characters in UTF-8, by the table of RFC 3629, section 4.
use Rattle.std.specs.Prelude.{◌≡◌, ℕ, ◌≤◌, List, [], ◌∷◌, ◌⊎◌}
use Rattle.octet_language.specs.Language.{Language, Each, AnyOf}

-- the octets from low to high
pub record Range : Type 0 where
  pub low : ℕ
  pub high : ℕ

abbrev pub from_to : ℕ → ℕ → Range
from_to a b = record { low = a; high = b }

-- one octet of a range
abbrev pub Octet : Range → Language
Octet r b = (x : ℕ) × (b ≡ x ∷ []) × (r.low ≤ x) × (x ≤ r.high)

-- UTF8-tail: an octet after the first, and the second, of a character
abbrev pub tail : Range
tail = from_to 0x80 0xbf

-- a row of the table: the range of the first octet, and those of the octets after it
pub record Row : Type 0 where
  pub first : Range
  pub behind : List Range

abbrev pub row : ℕ → ℕ → List Range → Row
row a b rs = record { first = from_to a b; behind = rs }

-- UTF8-1 to UTF8-4, row by row
abbrev pub table : List Row
table =
    row 0x00 0x7f []
    ∷ row 0xc2 0xdf (tail ∷ [])
    ∷ row 0xe0 0xe0 (from_to 0xa0 0xbf ∷ tail ∷ [])
    ∷ row 0xe1 0xec (tail ∷ tail ∷ [])
    ∷ row 0xed 0xed (from_to 0x80 0x9f ∷ tail ∷ [])
    ∷ row 0xee 0xef (tail ∷ tail ∷ [])
    ∷ row 0xf0 0xf0 (from_to 0x90 0xbf ∷ tail ∷ tail ∷ [])
    ∷ row 0xf1 0xf3 (tail ∷ tail ∷ tail ∷ [])
    ∷ row 0xf4 0xf4 (from_to 0x80 0x8f ∷ tail ∷ tail ∷ [])
    ∷ []

-- octets of one of the rows
abbrev pub InRow : List Row → Language
InRow [] b = ⊥
InRow (r ∷ rs) b = Each Octet (r.first ∷ r.behind) b ⊎ InRow rs b

-- UTF8-char: the octets of one character
unfoldable pub IsCharacter : Language
IsCharacter = InRow table

-- a character as its own octets
abbrev pub Character : List ℕ → Language
Character c b = IsCharacter c × (b ≡ c)

-- UTF8-octets: characters one after the other
abbrev pub IsText : Language
IsText = AnyOf (Each Character)
