-- Structured data as items: ids, names and values, each with its part.
use Rattle.std.specs.Prelude.{◌≡◌, ℕ, List, [], ◌∷◌, ◌++◌, ◌⊎◌, ⊤, length, map}
use Rattle.std.specs.List.{AllByRecursion, flat_map}
use Rattle.syslog_value.specs.Parts.{ElementParts, IsElement, IsName, IsParam, ParamParts}
use Rattle.syslog_fields.specs.Utf8.{IsText}
use Rattle.c_library.specs.declared.items.ItemsFault.{ItemsFault}
use Rattle.c_library.specs.declared.items.ItemsFault.TheVariants.{Bad, Memory}
use Rattle.c_library.specs.declared.items.SyslogboxItem.{SyslogboxItem}

-- the part of each item, and its octets
abbrev pub pairs : List SyslogboxItem → List (ℕ × List ℕ)
pairs xs = map (λ x. (x.part, x.octets.now)) xs

-- a parameter: its name and its value
abbrev pub param_items : ParamParts → List (ℕ × List ℕ)
param_items p = (9, p.name) ∷ (10, p.value) ∷ []

-- an element: its id and its parameters
abbrev pub element_items : ElementParts → List (ℕ × List ℕ)
element_items e = (8, e.id) ∷ flat_map param_items e.params

-- ---- what comes first

abbrev pub BeginsId : List (ℕ × List ℕ) → Type 0
BeginsId [] = ⊥
BeginsId ((part, octets) ∷ xs) = (part ≡ 8) × IsName octets

abbrev pub BeginsName : List (ℕ × List ℕ) → Type 0
BeginsName [] = ⊥
BeginsName ((part, octets) ∷ xs) = (part ≡ 9) × IsName octets

abbrev pub BeginsValue : List (ℕ × List ℕ) → Type 0
BeginsValue [] = ⊥
BeginsValue ((part, octets) ∷ xs) = (part ≡ 10) × IsText octets

-- an item of this part comes first, whatever its octets
abbrev pub BeginsPart : ℕ → List (ℕ × List ℕ) → Type 0
BeginsPart n [] = ⊥
BeginsPart n ((part, octets) ∷ xs) = part ≡ n

-- there is an item
abbrev pub HasItem : List (ℕ × List ℕ) → Type 0
HasItem [] = ⊥
HasItem (x ∷ xs) = ⊤

-- ---- items that are taken

-- a value comes first
abbrev pub TakesValue : List (ℕ × List ℕ) → List ℕ → Type 0
TakesValue xs value = (rest : List (ℕ × List ℕ)) × (xs ≡ (10, value) ∷ rest)

-- a parameter comes first
abbrev pub TakesParam : List (ℕ × List ℕ) → ParamParts → Type 0
TakesParam xs p = (rest : List (ℕ × List ℕ)) × IsParam p × (xs ≡ param_items p ++ rest)

-- these parameters come first, and no name follows them
pub record TakesParams (xs : List (ℕ × List ℕ)) (ps : List ParamParts) : Type 0 where
  pub each : AllByRecursion IsParam ps
  pub rest : List (ℕ × List ℕ)
  pub items : xs ≡ flat_map param_items ps ++ rest
  pub next : ¬ (BeginsPart 9 rest)

-- an element comes first, and no name follows it
pub record TakesElement (xs : List (ℕ × List ℕ)) (e : ElementParts) : Type 0 where
  pub valid : IsElement e
  pub rest : List (ℕ × List ℕ)
  pub items : xs ≡ element_items e ++ rest
  pub next : ¬ (BeginsPart 9 rest)

-- the items are those of these elements
pub record TakesElements (xs : List (ℕ × List ℕ)) (es : List ElementParts) : Type 0 where
  pub each : AllByRecursion IsElement es
  pub items : xs ≡ flat_map element_items es

-- ---- items that are refused

-- behind an id or a value: of these items the one that so many are left from is refused, since it is neither an id nor a
-- name; or since no value follows a name
abbrev pub StopsBehind : List (ℕ × List ℕ) → ℕ → Type 0
StopsBehind ys left =
    (HasItem ys × ¬ (BeginsId ys) × ¬ (BeginsName ys) × (left ≡ length ys))
    ⊎ ((name : List ℕ) × (zs : List (ℕ × List ℕ)) × (ys ≡ (9, name) ∷ zs) × IsName name × ¬ (BeginsValue zs)
    × (left ≡ length zs))

-- the same behind some parameters
pub record IsParamsBad (xs : List (ℕ × List ℕ)) (left : ℕ) : Type 0 where
  pub params : List ParamParts
  pub rest : List (ℕ × List ℕ)
  pub each : AllByRecursion IsParam params
  pub items : xs ≡ flat_map param_items params ++ rest
  pub stops : StopsBehind rest left

-- the same at an element: no id comes first; or one does, and behind it and some parameters an item is refused
abbrev pub IsElementBad : List (ℕ × List ℕ) → ℕ → Type 0
IsElementBad xs left =
    (HasItem xs × ¬ (BeginsId xs) × (left ≡ length xs))
    ⊎ ((id : List ℕ) × (ys : List (ℕ × List ℕ)) × (xs ≡ (8, id) ∷ ys) × IsName id × IsParamsBad ys left)

-- behind an element no name comes first
abbrev pub HasNoName : List ElementParts → List (ℕ × List ℕ) → Type 0
HasNoName [] ys = ⊤
HasNoName (e ∷ es) ys = ¬ (BeginsPart 9 ys)

-- where no element comes before, only an id may stand
abbrev pub StopsAt : List ElementParts → List (ℕ × List ℕ) → ℕ → Type 0
StopsAt [] ys left = HasItem ys × ¬ (BeginsId ys) × (left ≡ length ys)
StopsAt (e ∷ es) ys left = StopsBehind ys left

-- behind these elements an item is refused
pub record IsItemsBad (xs : List (ℕ × List ℕ)) (left : ℕ) : Type 0 where
  pub elements : List ElementParts
  pub rest : List (ℕ × List ℕ)
  pub each : AllByRecursion IsElement elements
  pub items : xs ≡ flat_map element_items elements ++ rest
  pub stops : StopsAt elements rest left

-- one is refused, or an allocation was
abbrev pub IsItemsFault : (ℕ → Type 0) → ItemsFault → Type 0
IsItemsFault P (Bad left) = P left
IsItemsFault P Memory = ⊤
