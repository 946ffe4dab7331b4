-- Elements and parameters by their number.
use Rattle.std.specs.Prelude.{◌≡◌, ℕ, ◌≤◌, List, ◌∷◌, ◌++◌, length, ◌⊎◌}
use Rattle.octet_language.specs.Language.{Language, Each}
use Rattle.syslog_value.specs.Parts.{ElementParts, ParamParts, Parts}
use Rattle.syslog_fields.specs.Grammar.{Param}
use Rattle.syslog_fields.specs.Time.{CivilTime}
use Rattle.syslog_fields.specs.Values.{Spells as SpellsValue}
use Rattle.c_library.specs.Faults.{IsNotRead, element_fault, param_fault}
use Rattle.c_library.specs.Parts.{Spells}
use Rattle.c_library.specs.Spans.{LiesAt, Spans}
use Rattle.c_library.specs.declared.element.FoundElement.{FoundElement}
use Rattle.c_library.specs.declared.element.SyslogboxElement.{SyslogboxElement}
use Rattle.c_library.specs.declared.fault.SyslogboxFault.{SyslogboxFault}
use Rattle.c_library.specs.declared.param.SyslogboxParam.{SyslogboxParam}

-- the item has so many before it
pub record IsNumber {V : Type 0} (items : List V) (n : ℕ) (item : V) : Type 0 where
  pub before : List V
  pub behind : List V
  pub parts : items ≡ before ++ item ∷ behind
  pub number_is : n ≡ length before

-- the text of the items from number n on, which ends the text of all
abbrev pub IsFrom : {V : Type 0} → (V → Language) → ℕ → List ℕ → List ℕ → Type 0
IsFrom {V} A n text rest =
    (items : List V) → Each A items text
    → (item : V) × (behind : List V) × IsNumber items n item × Each A (item ∷ behind) rest
    × ((passed : List ℕ) × (text ≡ passed ++ rest))

-- there are so many items, and none of number n
abbrev pub IsFew : {V : Type 0} → (V → Language) → ℕ → List ℕ → ℕ → Type 0
IsFew {V} A n text count = (items : List V) → Each A items text → (count ≡ length items) × (count ≤ n)

-- the element comes first in the text, with this id and this text of parameters
pub record IsSplit (e : ElementParts) (text id params : List ℕ) : Type 0 where
  pub id_is : id ≡ e.id
  pub params_are : Each Param e.params params
  pub behind : List ℕ
  pub parts : text ≡ 91 ∷ (id ++ (params ++ 93 ∷ behind))

-- the parameter comes first in the text, with this name and this spelling of its value
pub record IsSplitParam (q : ParamParts) (text name raw : List ℕ) : Type 0 where
  pub name_is : name ≡ q.name
  pub raw_is : SpellsValue q.value raw
  pub behind : List ℕ
  pub parts : text ≡ 32 ∷ (name ++ (61 ∷ 34 ∷ (raw ++ 34 ∷ behind)))

-- the octets spell a record whose element number n lies there
pub record IsFound (b : List ℕ) (n : ℕ) (f : FoundElement) : Type 0 where
  pub parts : Parts CivilTime
  pub spells : Spells b parts
  pub element : ElementParts
  pub number : IsNumber parts.elements n element
  pub id_is : f.id.now ≡ element.id
  pub id_lies : LiesAt b f.id_at f.id.now
  pub params_are : Each Param element.params f.params.now
  pub params_lie : LiesAt b f.params_at f.params.now

-- an element is shown: where its id lies, and how many parameters it has
pub record ShowsElement (b : List ℕ) (e : ElementParts) (c : SyslogboxElement) : Type 0 where
  pub id : Spans b c.id e.id
  pub params : c.params ≡ length e.params

-- a parameter is shown: where its name lies, and the spelling of its value
pub record ShowsParam (b : List ℕ) (q : ParamParts) (c : SyslogboxParam) : Type 0 where
  pub name : Spans b c.name q.name
  pub value : (raw : List ℕ) × Spans b c.value raw × SpellsValue q.value raw

-- the octets spell a record, and this shows its element number n
abbrev pub IsElementNumber : List ℕ → ℕ → SyslogboxElement → Type 0
IsElementNumber b n c =
    (p : Parts CivilTime) × Spells b p × (e : ElementParts) × IsNumber p.elements n e × ShowsElement b e c

-- the octets are no record that is read; or one that has no element number n
abbrev pub HasNoElement : List ℕ → ℕ → SyslogboxFault → Type 0
HasNoElement b n told =
    IsNotRead b told
    ⊎ ((p : Parts CivilTime) × Spells b p × (length p.elements ≤ n) × (told ≡ element_fault (length p.elements)))

-- the octets spell a record, and this shows parameter number m of its element number n
abbrev pub IsParamNumber : List ℕ → ℕ → ℕ → SyslogboxParam → Type 0
IsParamNumber b n m c =
    (p : Parts CivilTime) × Spells b p × (e : ElementParts) × IsNumber p.elements n e
    × (q : ParamParts) × IsNumber e.params m q × ShowsParam b q c

-- the octets are no record that is read, or have no element number n; or that element has no parameter number m
abbrev pub HasNoParam : List ℕ → ℕ → ℕ → SyslogboxFault → Type 0
HasNoParam b n m told =
    HasNoElement b n told
    ⊎ ((p : Parts CivilTime) × Spells b p × (e : ElementParts) × IsNumber p.elements n e
    × (length e.params ≤ m) × (told ≡ param_fault (length e.params)))

-- what a spelling of a value means
abbrev pub MeaningOf : List ℕ → Language
MeaningOf raw text = (meant : List ℕ) → SpellsValue meant raw → text ≡ meant
