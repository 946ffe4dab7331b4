-- The canonical form of structured data by any spelling of it.
use Rattle.std.specs.Prelude.{◌≡◌, ℕ, List, [], ◌∷◌, ◌++◌, Bool, true, false, Result, Ok, Err}
use Rattle.std.specs.List.{flat_map}
use Rattle.octet_language.specs.Language.{Language, Only, ◌⋅◌, Each}
use Rattle.octet_language.specs.Reading.{Follows}
use Rattle.syslog_value.specs.Parts.{ElementParts, IsById}
use Rattle.syslog_fields.specs.Appending.{Anything, Adds}
use Rattle.syslog_fields.specs.Canonical.{escaped, param_form, element_form, structured_data_form}
use Rattle.syslog_fields.specs.Grammar.{Param, Element, StructuredDataText}
use Rattle.syslog_fields.specs.Values.{Piece, Spells}

-- where a text of some value comes first, this is the form of that value, and the rest follows the text
abbrev pub FirstForm : {V : Type 0} → (V → Language) → (V → List ℕ) → List ℕ → List ℕ → Language
FirstForm {V} A form octets rest b = (v : V) (after : List ℕ) → Follows (A v) octets after
    → (b ≡ form v) × (rest ≡ after)

-- a value and its quotation mark
abbrev pub FirstValue : List ℕ → List ℕ → Language
FirstValue octets rest =
    FirstForm (λ text. Spells text ⋅ Only (34 ∷ [])) (λ text. escaped text ++ 34 ∷ []) octets rest

abbrev pub FirstParam : List ℕ → List ℕ → Language
FirstParam octets rest = FirstForm Param param_form octets rest

-- parameters and the bracket that ends them
abbrev pub FirstParams : List ℕ → List ℕ → Language
FirstParams octets rest =
    FirstForm (λ ps. Each Param ps ⋅ Only (93 ∷ [])) (λ ps. flat_map param_form ps ++ 93 ∷ []) octets rest

abbrev pub FirstElement : List ℕ → List ℕ → Language
FirstElement octets rest = FirstForm Element element_form octets rest

-- octets as they are, and a backslash where one is missing behind them
abbrev pub RunForm : Bool → List ℕ → Language
RunForm true run = Only run
RunForm false run = Only (run ++ 92 ∷ [])

-- the octets are the canonical form of these pieces and the quotation mark, which the rest follows; or the form is the
-- octets, one backslash more, and the form of the pieces that come first in the rest, before the mark
abbrev pub KeptForm : Bool → List ℕ → List ℕ → List (List ℕ) → List ℕ → Type 0
KeptForm true run rest ms after = (run ≡ escaped (flat_map (λ m. m) ms) ++ 34 ∷ []) × (rest ≡ after)
KeptForm false run rest ms after = (ks : List (List ℕ)) × (left : List ℕ) × Each Piece ks left
    × (rest ≡ left ++ 34 ∷ after)
    × (escaped (flat_map (λ m. m) ms) ≡ run ++ 92 ∷ escaped (flat_map (λ m. m) ks))

-- where a value and its quotation mark come first, so much of them is in a canonical record as it is
pub record KeptTo (octets rest : List ℕ) (ends : Bool) : Type 0 where
  pub run : List ℕ
  pub parts : octets ≡ run ++ rest
  pub form : (ms : List (List ℕ)) (raw after : List ℕ) → Each Piece ms raw → octets ≡ raw ++ 34 ∷ after
      → KeptForm ends run rest ms after

-- of the elements of a text
abbrev pub ElementsOf : List ℕ → Language
ElementsOf elements b = (es : List ElementParts) → Each Element es elements → b ≡ flat_map element_form es

-- of the structured data of a text, with its elements as they stand
abbrev pub StructuredDataOf : List ℕ → Language
StructuredDataOf text b = (es : List ElementParts) → StructuredDataText es text → b ≡ structured_data_form es

-- the elements of structured data do not stand by id
abbrev pub IsUnordered : List ℕ → Type 0
IsUnordered text = (es : List ElementParts) → StructuredDataText es text → ¬ (IsById es)

-- a text of the language was appended where the answer is true; it is false only for the cause, and some text was
-- appended
abbrev pub PutsUnless : {E : Type 0} → Language → Type 0 → List ℕ → List ℕ → Result Bool E → Type 0
PutsUnless L Cause old new (Ok true) = Adds L old new
PutsUnless L Cause old new (Ok false) = Adds Anything old new × Cause
PutsUnless L Cause old new (Err e) = Adds Anything old new
