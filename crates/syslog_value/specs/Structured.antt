-- Structured data, in which an id occurs once (RFC 5424, 6.3.2).
use Rattle.std.specs.Prelude.{◌≡◌, ℕ, ◌+◌, ◌<◌, List, [], ◌∷◌, ◌++◌, ◌⊎◌, length, slice_index_or}
use Rattle.std.specs.List.{IsDistinct}
use Rattle.std.specs.Ordering.{on}
use Rattle.std.specs.Str.{bytes_eq}
use Rattle.syslog_value.specs.Parts.{ElementParts, IsById}
use Rattle.syslog_value.specs.declared.structured.PushFault.{PushFault}
use Rattle.syslog_value.specs.declared.structured.PushFault.TheVariants.{RepeatedId, Memory}

-- an element has the id
abbrev pub HasId : List ℕ → List ElementParts → Type 0
HasId id [] = ⊥
HasId id (e ∷ es) = (e.id ≡ id) ⊎ HasId id es

-- no id is that of a later element
abbrev pub HaveDistinctIds : List ElementParts → Type 0
HaveDistinctIds = IsDistinct (on (λ e. e.id) bytes_eq)

-- two elements that follow each other have one id
pub record HasEqualNeighbours (es : List ElementParts) : Type 0 where
  pub offset : ℕ
  pub within : offset + 1 < length es
  pub same : (d : ElementParts) → (slice_index_or es offset d).id ≡ (slice_index_or es (offset + 1) d).id

-- the element is inserted among those that were there, and all are in the order of their ids
pub record AddsElement (element : ElementParts) (old new : List ElementParts) : Type 0 where
  pub before : List ElementParts
  pub after : List ElementParts
  pub old_is : old ≡ before ++ after
  pub new_is : new ≡ before ++ element ∷ after
  pub by_id : IsById new

-- why an element was not added: the first cause that holds
abbrev pub IsPushFault : List ElementParts → ElementParts → PushFault → Type 0
IsPushFault held element RepeatedId = HasId element.id held
IsPushFault held element Memory = ¬ HasId element.id held
