-- The spellings of a parameter's value (RFC 5424, 6.3.3).
use Rattle.std.specs.Prelude.{◌≡◌, ◌≢◌, ℕ, ◌<◌, List, [], ◌∷◌, ◌++◌, ◌⊎◌, ⊤}
use Rattle.std.specs.List.{AllByRecursion, flat_map}
use Rattle.octet_language.specs.Language.{Language, Each}
use Rattle.syslog_fields.specs.Utf8.{IsCharacter}

-- a quotation mark, a backslash or a closing bracket
abbrev pub IsSpecial : ℕ → Type 0
IsSpecial x = (x ≡ 34) ⊎ ((x ≡ 92) ⊎ (x ≡ 93))

-- a character that is none of these
abbrev pub IsPlain : Language
IsPlain c = IsCharacter c × (c ≢ 34 ∷ []) × (c ≢ 92 ∷ []) × (c ≢ 93 ∷ [])

-- a special character after a backslash
abbrev pub IsEscape : Language
IsEscape b = (x : ℕ) × IsSpecial x × (b ≡ 92 ∷ x ∷ [])

-- a piece of a spelling by its meaning: a special character after a backslash means itself,
-- a backslash before any other character means both, and any other character means itself
abbrev pub Piece : List ℕ → Language
Piece m b = ((x : ℕ) × IsSpecial x × (m ≡ x ∷ []) × (b ≡ 92 ∷ x ∷ []))
    ⊎ (((c : List ℕ) × IsPlain c × (m ≡ 92 ∷ c) × (b ≡ 92 ∷ c))
    ⊎ (IsPlain m × (b ≡ m)))

-- PARAM-VALUE: the spellings of a text are pieces whose meanings, joined, are the text
abbrev pub Spells : List ℕ → Language
Spells text b = (meanings : List (List ℕ)) × (text ≡ flat_map (λ m. m) meanings) × Each Piece meanings b

-- an octet of ASCII that is a piece and means itself
abbrev pub IsPlainOctet : ℕ → Type 0
IsPlainOctet x = (x < 128) × (x ≢ 34) × (x ≢ 92) × (x ≢ 93)

-- such octets stand before the rest
pub record PassesPlain (b rest : List ℕ) : Type 0 where
  pub run : List ℕ
  pub parts : b ≡ run ++ rest
  pub plain : AllByRecursion IsPlainOctet run

-- special characters after backslashes
unfoldable pub AreEscapes : List ℕ → Type 0
AreEscapes [] = ⊤
AreEscapes (x ∷ []) = ⊥
AreEscapes (x ∷ y ∷ s) = (x ≡ 92) × IsSpecial y × AreEscapes s

-- they stand before the rest
pub record PassesEscapes (b rest : List ℕ) : Type 0 where
  pub run : List ℕ
  pub parts : b ≡ run ++ rest
  pub escapes : AreEscapes run
