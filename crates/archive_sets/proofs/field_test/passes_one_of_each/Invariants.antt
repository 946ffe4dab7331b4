use Rattle.std.proofs.Common.{drop}
use Rattle.std.specs.Prelude.{ℤ, ◌↔◌}
use Rattle.std.specs.List.{AllByRecursion}
use Rattle.syslog_value.specs.Parts.{Parts}
use Rattle.syslog_reading.specs.ViewParts.{view_parts}
use Rattle.archive_sets.specs.Tests.{IsShownAs}
use Rattle.archive_sets.specs.Together.{PassesOne}
use Rattle.archive_sets.proofs.field_test.passes_one_of_each.Given as goal

abbrev pub invariant-lists : goal.invariant-lists
invariant-lists l = (r : Parts ℤ) → IsShownAs r (view_parts l.shown)
    → AllByRecursion (λ tests. PassesOne tests.items r) (drop l.tests-index l.lists)
    ↔ AllByRecursion (λ tests. PassesOne tests.items r) l.lists
