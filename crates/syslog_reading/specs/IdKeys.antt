-- Keys that stand for elements, and from where on ids may repeat.
use Rattle.std.specs.Prelude.{◌≡◌, ℕ, ◌+◌, ◌%◌, ◌<◌, ◌≤◌, List, [], ◌∷◌, ◌++◌, length, map, drop}
use Rattle.std.specs.List.{Contains}
use Rattle.octet_language.specs.Language.{Each}
use Rattle.octet_language.specs.Reading.{Follows}
use Rattle.syslog_value.specs.Parts.{ElementParts}
use Rattle.syslog_fields.specs.Grammar.{Element}
use Rattle.syslog_reading.specs.Faults.{AreDistinct}
use Rattle.syslog_reading.specs.Ids.{Skips}

-- the offset that a key has in its lower 32 bits
unfoldable pub offset_of : ℕ → ℕ
offset_of key = key % 4294967296

-- the offsets of keys
abbrev pub offsets : List ℕ → List ℕ
offsets keys = map (λ k. offset_of k) keys

-- the element begins at this offset
abbrev pub BeginsAt : List ℕ → ElementParts → ℕ → Type 0
BeginsAt text e at = (after : List ℕ) × Follows (Element e) (drop at text) after

-- of two elements with the same id, at two of these offsets, the later one begins at this offset or behind
abbrev pub RepeatFrom : List ℕ → ℕ → List ℕ → Type 0
RepeatFrom text at places = (k l : ℕ) (e f : ElementParts) → k < l → Contains places k → Contains places l
    → BeginsAt text e k → BeginsAt text f l → e.id ≡ f.id → at ≤ l

-- elements lie one by one in a text that begins at an offset, and each begins at one of these offsets
abbrev pub LieAt : List ℕ → List ElementParts → List ℕ → ℕ → Type 0
LieAt places [] text from = text ≡ []
LieAt places (e ∷ es) text from = (x : List ℕ) × (y : List ℕ) × (text ≡ x ++ y) × Element e x
    × Contains places from × LieAt places es y (from + length x)

-- no element reaches over this offset
abbrev pub IsEnd : List ℕ → ℕ → Type 0
IsEnd text at = (at ≤ length text) × Skips text (drop at text)

-- the elements of the text begin at these offsets, up to the rest
pub record Offered (text rest places : List ℕ) : Type 0 where
  pub prefix : List ℕ
  pub parts : text ≡ prefix ++ rest
  pub skips : Skips text rest
  pub ends : (o : ℕ) → Contains places o → IsEnd text o
  pub lie : (es : List ElementParts) → Each Element es text
      → (done : List ElementParts) × (todo : List ElementParts) × LieAt places done prefix 0 × Each Element todo rest

-- the ids of the elements up to any end that is not behind this offset differ
abbrev pub DifferUpTo : List ℕ → ℕ → Type 0
DifferUpTo text at = (prefix rest : List ℕ) (es fs : List ElementParts) → text ≡ prefix ++ rest
    → length prefix ≤ at → Each Element es prefix → Each Element fs rest → AreDistinct es
