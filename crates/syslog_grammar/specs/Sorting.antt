-- Structured data with its elements put in the order of their ids.
use Rattle.std.specs.Prelude.{◌≡◌, ℕ, ◌%◌, List, [], ◌∷◌, ⊤, Bool, IsTrue, drop}
use Rattle.std.specs.Borrow.{Bor}
use Rattle.std.specs.List.{flat_map}
use Rattle.std.specs.List.Sorted.{IsPermutation}
use Rattle.octet_language.specs.Language.{Language, Each}
use Rattle.syslog_value.specs.Parts.{ElementParts, IsById}
use Rattle.syslog_fields.specs.Canonical.{element_form, structured_data_form}
use Rattle.syslog_fields.specs.Grammar.{Element, StructuredDataText}

-- the text is that of the elements, and the canonical one where the answer is true
abbrev pub AreElementsOf : Bool → List ElementParts → Language
AreElementsOf is_form es text = Each Element es text × (IsTrue is_form → text ≡ flat_map element_form es)

-- the canonical form of the first of elements
abbrev pub FirstOf : Bool → List ℕ → Language
FirstOf is_form text b = (e : ElementParts) (others : List ElementParts) → AreElementsOf is_form (e ∷ others) text
    → b ≡ element_form e

-- the element is the first of those that the text has from an offset on
abbrev pub StandsAt : Bool → List ℕ → ElementParts → ℕ → Type 0
StandsAt is_form text e offset = (others : List ElementParts) × AreElementsOf is_form (e ∷ others) (drop offset text)

-- the offset that a key has in its lower 24 bits
unfoldable pub offset_of : ℕ → ℕ
offset_of key = key % 16777216

-- each of these stands for its element
unfoldable pub Pairs : {K : Type 0} → (ElementParts → K → Type 0) → List ElementParts → List K → Type 0
Pairs R [] [] = ⊤
Pairs R [] (k ∷ ks) = ⊥
Pairs R (e ∷ es) [] = ⊥
Pairs R (e ∷ es) (k ∷ ks) = R e k × Pairs R es ks

-- the canonical form of the elements for which these stand, which are by id
abbrev pub FormInOrder : {K : Type 0} → (ElementParts → K → Type 0) → List K → Language
FormInOrder R ks b = (es : List ElementParts) → Pairs R es ks → (b ≡ flat_map element_form es) × IsById es

-- the key has the offset of the element
abbrev pub IsKeyOf : Bool → List ℕ → ElementParts → ℕ → Type 0
IsKeyOf is_form text e key = StandsAt is_form text e (offset_of key)

-- each key has the offset of its element
abbrev pub AreKeysOf : Bool → List ℕ → List ElementParts → List ℕ → Type 0
AreKeysOf is_form text es ks = Pairs (IsKeyOf is_form text) es ks

-- the canonical form of the elements at the offsets of keys, which stand by id
abbrev pub KeysForm : Bool → List ℕ → List ℕ → Language
KeysForm is_form text ks = FormInOrder (IsKeyOf is_form text) ks

-- the text is that of the element
abbrev pub IsTextOf : Bool → ElementParts → Bor (List ℕ) → Type 0
IsTextOf is_form e text = AreElementsOf is_form (e ∷ []) text.now

-- each text is that of its element
abbrev pub AreTextsOf : Bool → List ElementParts → List (Bor (List ℕ)) → Type 0
AreTextsOf is_form es texts = Pairs (IsTextOf is_form) es texts

-- the canonical form of the elements of texts, which stand by id
abbrev pub TextsForm : Bool → List (Bor (List ℕ)) → Language
TextsForm is_form texts = FormInOrder (IsTextOf is_form) texts

-- the canonical form of the element of a text
abbrev pub TextForm : Bool → List ℕ → Language
TextForm is_form text b = (e : ElementParts) → AreElementsOf is_form (e ∷ []) text → b ≡ element_form e

-- the canonical form of elements in the order of their ids
abbrev pub SortedElementsOf : Bool → List ℕ → Language
SortedElementsOf is_form text b = (es : List ElementParts) → AreElementsOf is_form es text
    → (fs : List ElementParts) × IsPermutation es fs × IsById fs × (b ≡ flat_map element_form fs)

-- the canonical form of structured data, with its elements in the order of their ids
abbrev pub SortedDataOf : Bool → List ℕ → Language
SortedDataOf is_form text b = (es : List ElementParts) → StructuredDataText es text
    → (IsTrue is_form → text ≡ structured_data_form es)
    → (fs : List ElementParts) × IsPermutation es fs × IsById fs × (b ≡ structured_data_form fs)
