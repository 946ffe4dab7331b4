use Rattle.std.proofs.Common.{drop}
use Rattle.std.specs.Prelude.{ℤ, ◌↔◌}
use Rattle.syslog_value.specs.Parts.{Parts}
use Rattle.syslog_reading.specs.ViewParts.{view_parts}
use Rattle.archive_sets.specs.Tests.{IsShownAs}
use Rattle.archive_sets.specs.Together.{PassesOne}
use Rattle.archive_sets.proofs.field_test.passes_one.Given as goal

abbrev pub invariant-tests : goal.invariant-tests
invariant-tests l = (r : Parts ℤ) → IsShownAs r (view_parts l.shown)
    → PassesOne (drop l.test-index l.tests) r ↔ PassesOne l.tests r
