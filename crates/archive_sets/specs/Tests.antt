-- Tests of the fields of a record.
use Rattle.std.specs.Prelude.{◌≡◌, ℕ, ℤ, List, IsSomeAnd, option_map}
use Rattle.syslog_value.specs.Parts.{ElementParts, Parts}
use Rattle.syslog_fields.specs.Grammar.{StructuredDataText}
use Rattle.syslog_reading.specs.ViewParts.{ViewParts, octets_of}
use Rattle.octet_patterns.specs.Globs.{IsLike}
use Rattle.octet_patterns.specs.Occurrences.{HasWithin}
use Rattle.std.specs.Prelude.{◌↔◌}
use Rattle.archive_sets.specs.Fields.{HasElementId, HasId, HasWordAt, IsAsSevere, IsInFacility, shown_word, word_in}
use Rattle.archive_sets.specs.declared.field_test.FieldTest.{FieldTest}
use Rattle.archive_sets.specs.declared.field_test.FieldTest.TheVariants as test
use Rattle.archive_sets.specs.declared.word_field.WordField.{WordField}

-- the word in a field is like a pattern; one that is not there is like none
abbrev pub HasWordLike : WordField → List ℕ → Parts ℤ → Type 0
HasWordLike field pattern r = IsSomeAnd (word_in field r) (IsLike pattern)

-- the message has these octets somewhere
abbrev pub HasMessage : List ℕ → Parts ℤ → Type 0
HasMessage octets r = HasWithin octets (octets_of r.message)

-- the record passes the test
abbrev pub Passes : FieldTest → Parts ℤ → Type 0
Passes (test.AsSevereAs severity) r = IsAsSevere severity r
Passes (test.OfFacility facility) r = IsInFacility facility r
Passes (test.Word field word) r = HasWordAt field (option_map (λ s. s.now) word) r
Passes (test.WordLike field pattern) r = HasWordLike field pattern.now r
Passes (test.Element id) r = HasElementId id.now r
Passes (test.Message octets) r = HasMessage octets.now r

-- ---- a view of a record

-- the fields that a view shows are those of the record
pub record IsShownAs (r : Parts ℤ) (s : ViewParts) : Type 0 where
  pub priority : s.priority ≡ r.priority
  pub word : (field : WordField) → shown_word field s ≡ word_in field r
  pub elements : List ElementParts
  pub spelled : StructuredDataText elements s.elements
  pub ids : (id : List ℕ) → HasId elements id ↔ HasId r.elements id
  pub message : s.message ≡ r.message
