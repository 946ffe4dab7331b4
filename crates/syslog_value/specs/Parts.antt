-- A syslog record as its reader understands it (RFC 5424, sections 6.2 to 6.4).
use Rattle.std.specs.Prelude.{◌≢◌, ℕ, ℤ, pos, neg_ℤ, ◌≤ℤ◌, ◌≤◌, ◌<◌, List, [], ◌∷◌, length, take, Option, IfSome}
use Rattle.std.specs.Prelude.{IsUtf8, ⊤}
use Rattle.std.specs.List.{AllByRecursion}
use Rattle.syslog_value.specs.Order.{OctetsBelow}

-- a parameter: a name, and a text in UTF-8
pub record ParamParts : Type 0 where
  pub name : List ℕ
  pub value : List ℕ

-- an element of the structured data: an id, and its parameters in order
pub record ElementParts : Type 0 where
  pub id : List ℕ
  pub params : List ParamParts

-- any octets, or a text in UTF-8 after the BOM
pub data MessageParts : Type 0 where
  AnyOctets : List ℕ → MessageParts
  Utf8Text : List ℕ → MessageParts

-- a record over its kind of time: the octets of one name a civil time, a record has an instant
pub record Parts (When : Type 0) : Type 0 where
  pub priority : ℕ
  pub time : Option When
  pub hostname : Option (List ℕ)
  pub app_name : Option (List ℕ)
  pub proc_id : Option (List ℕ)
  pub msg_id : Option (List ℕ)
  pub elements : List ElementParts
  pub message : MessageParts

-- ---- what each part may be

-- PRINTUSASCII: a printable octet of ASCII that is no space
abbrev pub IsPrintable : ℕ → Type 0
IsPrintable x = (33 ≤ x) × (x ≤ 126)

-- one to n printable octets, and not the one octet "-"
pub record IsWord (n : ℕ) (w : List ℕ) : Type 0 where
  pub some : 0 < length w
  pub fits : length w ≤ n
  pub printable : AllByRecursion IsPrintable w
  pub not_nil : w ≢ 45 ∷ []

-- a printable octet but "=", "]" and the quotation mark
abbrev pub IsNameOctet : ℕ → Type 0
IsNameOctet x = IsPrintable x × (x ≢ 61) × (x ≢ 93) × (x ≢ 34)

-- SD-NAME: one to 32 such octets
pub record IsName (w : List ℕ) : Type 0 where
  pub some : 0 < length w
  pub fits : length w ≤ 32
  pub octets : AllByRecursion IsNameOctet w

-- a number of 0 to 255
abbrev pub IsOctets : List ℕ → Type 0
IsOctets = AllByRecursion (λ x. x < 256)

-- the BOM in UTF-8
abbrev pub bom : List ℕ
bom = 0xef ∷ 0xbb ∷ 0xbf ∷ []

abbrev pub IsParam : ParamParts → Type 0
IsParam p = IsName p.name × IsUtf8 p.value

abbrev pub IsElement : ElementParts → Type 0
IsElement e = IsName e.id × AllByRecursion IsParam e.params

-- octets that do not start with the BOM, or a text
abbrev pub IsMessage : MessageParts → Type 0
IsMessage (AnyOctets octets) = IsOctets octets × (take 3 octets ≢ bom)
IsMessage (Utf8Text text) = IsUtf8 text

-- the ids ascend strictly, so none occurs twice
abbrev pub IsById : List ElementParts → Type 0
IsById [] = ⊤
IsById (e ∷ es) = AllByRecursion (λ f. OctetsBelow e.id f.id) es × IsById es

-- from 0000-01-01T00:00:00.000000Z to 9999-12-31T23:59:59.999999Z, in microseconds from 1970
abbrev pub IsInstant : ℤ → Type 0
IsInstant z = (neg_ℤ (pos 62_167_219_200_000_000) ≤ℤ z) × (z ≤ℤ pos 253_402_300_799_999_999)

-- what a record is: its elements are kept by id, so their order in a text carries no meaning
pub record IsRecord (r : Parts ℤ) : Type 0 where
  pub priority : r.priority ≤ 191
  pub time : IfSome r.time IsInstant
  pub hostname : IfSome r.hostname (IsWord 255)
  pub app_name : IfSome r.app_name (IsWord 48)
  pub proc_id : IfSome r.proc_id (IsWord 128)
  pub msg_id : IfSome r.msg_id (IsWord 32)
  pub elements : AllByRecursion IsElement r.elements
  pub by_id : IsById r.elements
  pub message : IsMessage r.message
