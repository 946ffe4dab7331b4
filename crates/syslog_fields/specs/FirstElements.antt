-- The first of elements and parameters that are known to be well-formed.
use Rattle.std.specs.Prelude.{◌≡◌, ◌≢◌, ◌==◌, ℕ, List, [], ◌∷◌, ◌++◌, ◌⊎◌, length, ⊤, Bool, true, false}
use Rattle.std.specs.List.{AllByRecursion}
use Rattle.octet_language.specs.Language.{AnyOf}
use Rattle.octet_language.specs.Reading.{Follows}
use Rattle.syslog_value.specs.Parts.{ElementParts, IsNameOctet}
use Rattle.syslog_fields.specs.Grammar.{Element, Param}
use Rattle.syslog_fields.specs.Spans.{ElementSpan, SpannedElement, ParamSpan, SpannedParam}

-- where an id comes first, and then a space or a bracket, it is so long
abbrev pub IsIdLength : List ℕ → ℕ → Type 0
IsIdLength octets n = (id after : List ℕ) (x : ℕ) → AllByRecursion IsNameOctet id → (x ≡ 32) ⊎ (x ≡ 93)
    → octets ≡ id ++ x ∷ after → n ≡ length id

-- where an element comes first, this is its id
abbrev pub IsFirstId : List ℕ → List ℕ → Type 0
IsFirstId octets id = (e : ElementParts) (after : List ℕ) → Follows (Element e) octets after → id ≡ e.id

-- where a name comes first, and then "=", it is so long
abbrev pub IsNameLength : List ℕ → ℕ → Type 0
IsNameLength octets n = (name after : List ℕ) → AllByRecursion IsNameOctet name → octets ≡ name ++ 61 ∷ after
    → n ≡ length name

-- no such mark but behind a backslash, which takes the octet after it
unfoldable pub IsPaired : ℕ → List ℕ → Type 0
IsPaired mark [] = ⊤
IsPaired mark (x ∷ []) = (x ≢ 92) × (x ≢ mark)
IsPaired mark (x ∷ y ∷ s) = ((x ≡ 92) × IsPaired mark s) ⊎ ((x ≢ 92) × ((x ≢ mark) × IsPaired mark (y ∷ s)))

-- whether the octets end with a backslash that takes the octet after them (RFC 5424, 6.3.3), where true says that a
-- backslash before them takes their first octet
unfoldable pub takes_next : Bool → List ℕ → Bool
takes_next b [] = b
takes_next true (x ∷ s) = takes_next false s
takes_next false (x ∷ s) = takes_next (x == 92) s

-- no quotation mark and no closing bracket but behind a backslash that takes it, where true says that a backslash
-- before the octets takes the first
unfoldable pub IsUnmarked : Bool → List ℕ → Type 0
IsUnmarked b [] = ⊤
IsUnmarked true (x ∷ s) = IsUnmarked false s
IsUnmarked false (x ∷ s) = (x ≢ 34) × (x ≢ 93) × IsUnmarked (x == 92) s

-- no mark ends the spelling of a value before its end, and no backslash takes the octet after it
abbrev pub HasNoMark : List ℕ → Type 0
HasNoMark raw = IsUnmarked false raw × (takes_next false raw ≡ false)

-- where such octets come first, and then the mark, they are so many
abbrev pub IsMarkedLength : ℕ → List ℕ → ℕ → Type 0
IsMarkedLength mark octets n = (text after : List ℕ) → IsPaired mark text → octets ≡ text ++ mark ∷ after
    → n ≡ length text

-- where an element comes first, this is it, and the rest follows it
abbrev pub SplitsElement : List ℕ → ElementSpan → List ℕ → Type 0
SplitsElement octets v rest = (after : List ℕ) → Follows (AnyOf Element) octets after
    → Follows (SpannedElement v) octets rest

-- where a parameter comes first, this is it, and the rest follows it
abbrev pub SplitsParam : List ℕ → ParamSpan → List ℕ → Type 0
SplitsParam octets v rest = (after : List ℕ) → Follows (AnyOf Param) octets after → Follows (SpannedParam v) octets rest
