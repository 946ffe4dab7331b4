-- What the readers of parts lend: the texts of parts as they lie in the octets.
use Rattle.std.specs.Prelude.{◌≡◌, ◌≢◌, ℕ, ◌<◌, ◌≤◌, List, [], ◌∷◌, ◌++◌, length, ◌⊎◌}
use Rattle.std.specs.List.{AllByRecursion}
use Rattle.octet_language.specs.Language.{Language, Only, ◌⋅◌, AnyOf, Each, IfFirst, NoPrefix}
use Rattle.octet_language.specs.Reading.{Follows, Misses}
use Rattle.syslog_fields.specs.Grammar.{Name, Param, Element, StructuredDataText, MessagePart}
use Rattle.syslog_fields.specs.Values.{Piece}

-- a text of the language as its own octets
abbrev pub Text : Language → List ℕ → Language
Text L text b = L text × (b ≡ text)

-- one to n octets of a class
pub record IsRun (C : ℕ → Type 0) (n : ℕ) (b : List ℕ) : Type 0 where
  pub some : 0 < length b
  pub fits : length b ≤ n
  pub octets : AllByRecursion C b

-- a run is not whole: no octet of it comes first, or more than it may have
pub record StopsInRun (C : ℕ → Type 0) (n : ℕ) (b : List ℕ) (remaining : ℕ) : Type 0 where
  pub read : List ℕ
  pub rest : List ℕ
  pub parts : b ≡ read ++ rest
  pub count : length rest ≡ remaining
  pub octets : AllByRecursion C read
  pub ends : ((read ≡ []) × IfFirst (λ x. C x → ⊥) rest) ⊎ ((length read ≡ n) × IfFirst C rest)

-- a parameter by its name and the spelling of its value
pub record ParamSpan : Type 0 where
  pub name : List ℕ
  pub raw : List ℕ

-- ="VALUE", by the spelling of the value
abbrev pub SpannedValue : List ℕ → Language
SpannedValue raw = Only (61 ∷ []) ⋅ Only (34 ∷ []) ⋅ Text (AnyOf (Each Piece)) raw ⋅ Only (34 ∷ [])

abbrev pub SpannedParam : ParamSpan → Language
SpannedParam v = Only (32 ∷ []) ⋅ Name v.name ⋅ SpannedValue v.raw

-- an element by its id and the text of its parameters
pub record ElementSpan : Type 0 where
  pub id : List ℕ
  pub params : List ℕ

abbrev pub SpannedElement : ElementSpan → Language
SpannedElement v = Only (91 ∷ []) ⋅ Name v.id ⋅ Text (AnyOf (Each Param)) v.params ⋅ Only (93 ∷ [])

-- elements come first, one at least, and none follows them
abbrev pub EndsElements : List ℕ → List ℕ → Type 0
EndsElements b rest = Follows (AnyOf Element ⋅ AnyOf (Each Element)) b rest × IfFirst (λ x. x ≢ 91) rest

-- an element is not whole: with a tail after the elements the octets are no text, and no elements and a space come
-- first
pub record StopsInElements (b : List ℕ) (remaining : ℕ) : Type 0 where
  pub message_part : Misses (AnyOf Element ⋅ AnyOf (Each Element) ⋅ AnyOf MessagePart) b remaining
  pub space : NoPrefix (AnyOf Element ⋅ AnyOf (Each Element) ⋅ Only (32 ∷ [])) b

-- structured data comes first: NILVALUE, or elements that none follows
abbrev pub EndsStructuredData : List ℕ → List ℕ → List ℕ → Type 0
EndsStructuredData b text rest = (b ≡ text ++ rest)
    × ((text ≡ 45 ∷ []) ⊎ ((AnyOf Element ⋅ AnyOf (Each Element)) text × IfFirst (λ x. x ≢ 91) rest))

-- the structured data is not whole
pub record StopsInStructuredData (b : List ℕ) (remaining : ℕ) : Type 0 where
  pub message_part : Misses (AnyOf StructuredDataText ⋅ AnyOf MessagePart) b remaining
  pub space : NoPrefix (AnyOf StructuredDataText ⋅ Only (32 ∷ [])) b
