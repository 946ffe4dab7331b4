-- Texts as they lie in the octets, beside the canonical texts of what they mean.
use Rattle.std.specs.Prelude.{◌≡◌, ℕ, ◌<◌, List, ◌∷◌, ◌++◌, length, Bool, true, false}
use Rattle.std.specs.List.{flat_map}
use Rattle.octet_language.specs.Language.{Language, IfFirst}
use Rattle.syslog_value.specs.Parts.{ParamParts}
use Rattle.octet_language.specs.Language.{Each}
use Rattle.syslog_fields.specs.Canonical.{escaped, param_form, element_form}
use Rattle.syslog_fields.specs.Grammar.{Element}
use Rattle.syslog_fields.specs.Values.{IsSpecial, Spells, Piece}

-- the text is the canonical one where the answer is true, and shorter than it where not
abbrev pub IsForm : Bool → List ℕ → List ℕ → Type 0
IsForm true text form = text ≡ form
IsForm false text form = length text < length form

-- a text of a value comes first, and the answer tells whether it is the value's canonical text
pub record ReadsForm {V : Type 0} (A : V → Language) (form : V
    → List ℕ) (is_form : Bool) (b rest : List ℕ) : Type 0 where
  pub value : V
  pub text : List ℕ
  pub parts : b ≡ text ++ rest
  pub is : A value text
  pub answer : IsForm is_form text (form value)

-- the text is that of a value, and the answer tells whether it is the value's canonical text
abbrev pub HasForm : {V : Type 0} → (V → Language) → (V → List ℕ) → Bool → List ℕ → Type 0
HasForm {V} A form is_form text = (v : V) × A v text × IsForm is_form text (form v)

-- a backslash comes first, and no special character follows it
abbrev pub BeginsLone : List ℕ → Type 0
BeginsLone octets = (behind : List ℕ) × (octets ≡ 92 ∷ behind) × IfFirst (λ x. ¬ (IsSpecial x)) behind

-- pieces of a value, by their meanings
abbrev pub pieces_form : List (List ℕ) → List ℕ
pieces_form meanings = flat_map escaped meanings

abbrev pub params_form : List ParamParts → List ℕ
params_form ps = flat_map param_form ps

-- the spelling of a value
abbrev pub IsValueForm : Bool → List ℕ → Type 0
IsValueForm is_form raw = HasForm Spells escaped is_form raw

-- an element of this id comes first
abbrev pub ReadsElement : Bool → List ℕ → List ℕ → List ℕ → Type 0
ReadsElement is_form id b rest = (r : ReadsForm Element element_form is_form b rest) × (r.value.id ≡ id)

-- the spelling is its own canonical form
abbrev pub IsOwnForm : List ℕ → Type 0
IsOwnForm raw = (ms : List (List ℕ)) → Each Piece ms raw → escaped (flat_map (λ m. m) ms) ≡ raw

-- the canonical form is longer than the spelling
abbrev pub HasLongerForm : List ℕ → Type 0
HasLongerForm raw = (ms : List (List ℕ)) → Each Piece ms raw → length raw < length (escaped (flat_map (λ m. m) ms))
