-- Structured data as it lies in the octets, beside its canonical text.
use Rattle.std.specs.Prelude.{◌≡◌, ◌↔◌, ℕ, List, Bool, IsTrue, None}
use Rattle.std.specs.List.{flat_map}
use Rattle.octet_language.specs.Language.{Each}
use Rattle.syslog_value.specs.Parts.{ElementParts, IsById}
use Rattle.syslog_fields.specs.Canonical.{element_form, structured_data_form}
use Rattle.syslog_fields.specs.Grammar.{Element, StructuredDataText}
use Rattle.syslog_fields.specs.Forms.{ReadsForm}
use Rattle.syslog_reading.specs.Faults.{AreDistinct}
use Rattle.syslog_reading.specs.Ids.{IsRisingFrom, ids_of}

abbrev pub elements_form : List ElementParts → List ℕ
elements_form es = flat_map element_form es

-- elements come first, and the answers tell whether they are canonical, whether their ids ascend, and whether they are
-- known to differ
abbrev pub ReadsElements : Bool → Bool → Bool → List ℕ → List ℕ → Type 0
ReadsElements is_form ascends differ b rest = (r : ReadsForm (Each Element) elements_form is_form b rest)
    × (IsTrue ascends ↔ IsRisingFrom None (ids_of r.value)) × (IsTrue differ → AreDistinct r.value)

-- whether structured data is canonical but for the order of its elements, and whether they stand by id
abbrev pub HasDataForms : Bool → Bool → List ℕ → Type 0
HasDataForms is_form ascends text = (es : List ElementParts) → StructuredDataText es text
    → (IsTrue is_form ↔ (text ≡ structured_data_form es)) × (IsTrue ascends ↔ IsById es)
