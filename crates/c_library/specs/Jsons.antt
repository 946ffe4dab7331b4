-- A record that octets are, as JSON.
use Rattle.std.specs.Prelude.{◌≡◌, ℕ, ℤ, List}
use Rattle.json.specs.Json.{Json}
use Rattle.json.specs.Print.{print}
use Rattle.json.specs.Tree.{json_tokens}
use Rattle.octet_language.specs.Language.{Language}
use Rattle.syslog_value.specs.Parts.{Parts}
use Rattle.syslog_reading.specs.WellFormed.{WellFormed}
use Rattle.record_json.specs.Objects.{IsJsonOf}
use Rattle.c_library.specs.Faults.{IsWithin}

-- the compact text of the object of a record
abbrev pub JsonText : Parts ℤ → Language
JsonText r text = (j : Json) × IsJsonOf r j × (text ≡ print (json_tokens j))

-- that of the record that the octets are
abbrev pub JsonOf : List ℕ → Language
JsonOf b text = IsWithin b × (r : Parts ℤ) × WellFormed r b × JsonText r text
