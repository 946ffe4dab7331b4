use Rattle.std.proofs.Common.{drop}
use Rattle.std.specs.Prelude.{ℤ}
use Rattle.std.specs.List.{AllByRecursion}
use Rattle.syslog_value.specs.Parts.{Parts}
use Rattle.syslog_reading.specs.WellFormed.{WellFormed}
use Rattle.archive_sets.specs.Together.{PassesOne}
use Rattle.archive_sets.proofs.field_test.may_pass_one_of_each.Given as goal

abbrev pub invariant-lists : goal.invariant-lists
invariant-lists l = (r : Parts ℤ) → WellFormed r l.octets
    → AllByRecursion (λ tests. PassesOne tests.items r) l.lists
    → AllByRecursion (λ tests. PassesOne tests.items r) (drop l.tests-index l.lists)
