-- The names of a store's files, and the days of its segments.
use Rattle.std.specs.Prelude.{◌≡◌, ◌⊎◌, ℕ, All, Contains, List, ◌∷◌, Option, Some, IfSome, IsSomeAnd, length}
use Rattle.record_store.specs.Names.{IsHexadecimal, IsSegment}
use Rattle.store_reading.specs.Days.{IsAfter, IsDayBelow, IsDayText, IsOf}
use Rattle.archive_text.specs.Entries.{Entry}
use Rattle.archive_text.specs.Text.{IsArchive, text_of}
use Rattle.archive_text.specs.declared.limits.TheConstants.{ENTRY_MAX}

-- a dot and 64 hexadecimal digits
pub record IsDottedDigest (octets : List ℕ) : Type 0 where
  pub digest : List ℕ
  pub long : length digest ≡ 64
  pub digits : All IsHexadecimal digest
  pub octets_are : octets ≡ 46 ∷ digest

-- a day is one of those that come next: of what was found, and of the day where that comes behind the last one
pub record AddsDay (last : Option (List ℕ)) (day : List ℕ) (next found : Option (List ℕ)) : Type 0 where
  pub behind : IfSome next (IsAfter last) → IfSome found (IsAfter last)
  pub day_found : IsAfter last day → IsSomeAnd found (λ (d : List ℕ). ¬ (IsDayBelow day d))
  pub still : (other : List ℕ) → IsSomeAnd next (λ (d : List ℕ). ¬ (IsDayBelow other d))
      → IsSomeAnd found (λ (d : List ℕ). ¬ (IsDayBelow other d))
  pub one : (found ≡ next) ⊎ (found ≡ Some day)

-- some name of a list is P
abbrev pub SomeName : List (List ℕ) → (List ℕ → Type 0) → Type 0
SomeName names P = (name : List ℕ) × Contains names name × P name

-- one of the names is that of a segment of the day
abbrev pub HaveSegment : List (List ℕ) → List ℕ → Type 0
HaveSegment names day = SomeName names (IsSegment day)

-- the day of a segment, which comes behind the last one, and before which no day of a segment comes that does; or there
-- is none that does
pub record IsNextSegment (last : Option (List ℕ)) (names : List (List ℕ)) (found : Option (List ℕ)) : Type 0 where
  pub segment : IfSome found (HaveSegment names)
  pub behind : IfSome found (IsAfter last)
  pub none_before : (day : List ℕ) → IsDayText day → HaveSegment names day → IsAfter last day
      → IsSomeAnd found (λ (next : List ℕ). ¬ (IsDayBelow day next))

-- the day of the first entry of an archive's text
abbrev pub IsFirstDay : List ℕ → List ℕ → Type 0
IsFirstDay text day = (e : Entry) × (es : List Entry) × IsArchive ENTRY_MAX (e ∷ es) × (text ≡ text_of (e ∷ es)) ×
    IsOf day e

-- of the days of segments and of the first entry of a text, those that come behind the last one
pub record IsNextDay (last : Option (List ℕ)) (names : List (List ℕ)) (text : List ℕ) (found : Option (List ℕ)) : Type
    0 where
  pub behind : IfSome found (IsAfter last)
  pub none_before : (day : List ℕ) → IsDayText day → HaveSegment names day ⊎ IsFirstDay text day → IsAfter last day
      → IsSomeAnd found (λ (next : List ℕ). ¬ (IsDayBelow day next))
