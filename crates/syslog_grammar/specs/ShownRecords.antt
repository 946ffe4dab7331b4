-- The record that a view shows, and its canonical text.
use Rattle.std.specs.Prelude.{◌≡◌, ℕ, ℤ, List, ◌++◌}
use Rattle.syslog_value.specs.Parts.{Parts, IsRecord}
use Rattle.syslog_fields.specs.Canonical.{Canonical}
use Rattle.syslog_reading.specs.ShownParts.{ViewParts, IsViewOf}
use Rattle.syslog_reading.specs.WellFormed.{WellFormed}

-- the canonical text of one record follows the old octets: of the record that all octets spell of which this is shown
pub record AddsShown (s : ViewParts) (old new : List ℕ) : Type 0 where
  pub shown : Parts ℤ
  pub valid : IsRecord shown
  pub instant : s.instant ≡ shown.time
  pub spelled : (b : List ℕ) → IsViewOf b s → WellFormed shown b
  pub octets : List ℕ
  pub canonical : Canonical shown octets
  pub added : new ≡ old ++ octets
