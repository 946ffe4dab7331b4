-- Conditions that are given together.
use Rattle.std.specs.Prelude.{◌≡◌, ◌⊎◌, ℕ, ℤ, List, [], ◌∷◌, Option, None}
use Rattle.std.specs.List.{AllByRecursion}
use Rattle.syslog_value.specs.Parts.{Parts}
use Rattle.archive_text.specs.Entries.{Entry}
use Rattle.archive_sets.specs.Conditions.{IsInRange}
use Rattle.archive_sets.specs.Fields.{IsOfRecord}
use Rattle.archive_sets.specs.Tests.{Passes}
use Rattle.archive_sets.specs.declared.conditions.Conditions.{Conditions}
use Rattle.archive_sets.specs.declared.conditions.Times.{Times}
use Rattle.archive_sets.specs.declared.conditions.Times.TheVariants.{Range, Undated}
use Rattle.archive_sets.specs.declared.field_test.FieldTest.{FieldTest}

-- the instant is one of these times: it is in the range, or there is none
abbrev pub IsOneOf : Times → Option ℤ → Type 0
IsOneOf (Range range) i = IsInRange range.from range.to range.undated i
IsOneOf Undated i = i ≡ None

-- the record passes one of the tests
abbrev pub PassesOne : List FieldTest → Parts ℤ → Type 0
PassesOne [] r = ⊥
PassesOne (t ∷ ts) r = Passes t r ⊎ PassesOne ts r

-- the record passes one test of each list in `any`, and none of those in `none`
pub record PassesTests (c : Conditions) (r : Parts ℤ) : Type 0 where
  pub any : AllByRecursion (λ tests. PassesOne tests.items r) c.any.items
  pub none : ¬ (PassesOne c.none.items r)

-- there is no test
pub record HasNoTest (c : Conditions) : Type 0 where
  pub any : c.any.items ≡ []
  pub none : c.none.items ≡ []

-- the octets are a record that passes the tests, or there is none to pass
abbrev pub MeetsFields : Conditions → List ℕ → Type 0
MeetsFields c b = HasNoTest c ⊎ IsOfRecord (PassesTests c) b

-- the record of an entry meets each condition that is given
pub record MeetsAll (c : Conditions) (e : Entry) : Type 0 where
  pub time : IsOneOf c.times e.instant
  pub fields : MeetsFields c e.octets
