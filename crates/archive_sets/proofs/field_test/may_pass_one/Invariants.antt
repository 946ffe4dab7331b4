use Rattle.std.proofs.Common.{drop}
use Rattle.std.specs.Prelude.{ℤ}
use Rattle.syslog_value.specs.Parts.{Parts}
use Rattle.syslog_reading.specs.WellFormed.{WellFormed}
use Rattle.archive_sets.specs.Together.{PassesOne}
use Rattle.archive_sets.proofs.field_test.may_pass_one.Given as goal

abbrev pub invariant-tests : goal.invariant-tests
invariant-tests l = (r : Parts ℤ) → WellFormed r l.octets → PassesOne l.tests r → PassesOne (drop l.test-index l.tests) r
