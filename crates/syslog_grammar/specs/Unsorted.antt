-- Canonical octets whose elements are in any order.
use Rattle.std.specs.Prelude.{ℕ, ℤ, List}
use Rattle.syslog_value.specs.Parts.{Parts}
use Rattle.syslog_fields.specs.Canonical.{Canonical}
use Rattle.syslog_fields.specs.Grammar.{StructuredDataText}
use Rattle.syslog_reading.specs.Faults.{AreDistinct}
use Rattle.syslog_reading.specs.WellFormed.{HasRecordParts}
use Rattle.syslog_grammar.specs.ElementOrders.{IsInOrder}
use Rattle.syslog_grammar.specs.declared.canonical_form.ElementOrder.{ElementOrder}

-- a record whose elements have distinct ids, in any order
abbrev pub IsUnsortedRecord : Parts ℤ → Type 0
IsUnsortedRecord r = HasRecordParts r × AreDistinct r.elements

-- the octets are the canonical form of such parts, with the elements in this order
abbrev pub IsFormOf : ElementOrder → List ℕ → Parts ℤ → Type 0
IsFormOf order b r = HasRecordParts r × IsInOrder order r.elements × Canonical r b

-- the octets are a canonical form, and the text is their structured data
abbrev pub HoldsForm : ElementOrder → List ℕ → List ℕ → Type 0
HoldsForm order b text = (r : Parts ℤ) × IsFormOf order b r × StructuredDataText r.elements text
