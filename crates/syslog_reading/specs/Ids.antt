-- Ids that are repeated in the structured data.
use Rattle.std.specs.Prelude.{◌≡◌, ℕ, List, [], ◌∷◌, ◌++◌, ◌⊎◌, Option, Some, None, ⊤, map}
use Rattle.octet_language.specs.Language.{Only, ◌⋅◌, Each}
use Rattle.syslog_value.specs.Order.{OctetsBelow}
use Rattle.syslog_value.specs.Parts.{ElementParts}
use Rattle.syslog_fields.specs.Grammar.{StructuredDataText, Element}
use Rattle.syslog_reading.specs.Faults.{AreDistinct, Repeats, PrefixEnds}

-- the text is that of elements with distinct ids
abbrev pub HoldsDistinct : List ℕ → Type 0
HoldsDistinct text = (es : List ElementParts) × StructuredDataText es text × AreDistinct es

-- the ids of the elements of the text are distinct
abbrev pub IdsDiffer : List ℕ → Type 0
IdsDiffer text = (es : List ElementParts) → StructuredDataText es text → AreDistinct es

-- the text is that of elements of which one, at this offset, is the first to repeat an id
abbrev pub HoldsRepeated : List ℕ → ℕ → Type 0
HoldsRepeated text at = (es : List ElementParts) × StructuredDataText es text × (before : List ElementParts)
    × Repeats es before
    × PrefixEnds (Each Element before ⋅ Only (91 ∷ [])) text at

-- the id is above the greatest that was met, if one was met
abbrev pub IsAbove : List ℕ → Option (List ℕ) → Type 0
IsAbove id None = ⊤
IsAbove id (Some greatest) = OctetsBelow greatest id

-- the id is not above the greatest that was met
abbrev pub IsAtMost : List ℕ → Option (List ℕ) → Type 0
IsAtMost id None = ⊥
IsAtMost id (Some greatest) = (id ≡ greatest) ⊎ OctetsBelow id greatest

-- the ids of elements, in their order
abbrev pub ids_of : List ElementParts → List (List ℕ)
ids_of es = map (λ e. e.id) es

-- each id is above the one before it, and the first above what was met
abbrev pub IsRisingFrom : Option (List ℕ) → List (List ℕ) → Type 0
IsRisingFrom met [] = ⊤
IsRisingFrom met (id ∷ ids) = IsAbove id met × IsRisingFrom (Some id) ids

-- what was read of the data, with distinct ids, and what is left
pub record Known (text rest : List ℕ) : Type 0 where
  pub prefix : List ℕ
  pub before : List ElementParts
  pub parts : text ≡ prefix ++ rest
  pub each : Each Element before prefix
  pub distinct : AreDistinct before
  pub more : ((es : List ElementParts) × Each Element es rest) ⊎ ((before ≡ []) × (rest ≡ 45 ∷ []))

-- the elements before the rest, and those of the rest
pub record Skips (elements rest : List ℕ) : Type 0 where
  pub prefix : List ℕ
  pub parts : elements ≡ prefix ++ rest
  pub both : (es : List ElementParts) → Each Element es elements
      → (cs : List ElementParts) × (ds : List ElementParts) × Each Element cs prefix × Each Element ds rest
