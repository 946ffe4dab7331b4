use Rattle.std.proofs.Common.{◌≡◌, ℕ, ◌/◌, ◌∙◌, IsTrue, subst}
use Rattle.std.specs.Prelude.{◌↔◌}
use Rattle.syslog_value.specs.Facilities.{facility_code}
use Rattle.syslog_reading.specs.ViewParts.{view_parts}
use Rattle.archive_sets.specs.Fields.{IsInFacility}
use Rattle.archive_sets.proofs.Records.{met_by_shown}
use Rattle.archive_sets.proofs.fields.OfFacilityCondition.holds.Goals as goal

pub returns-in-Ok : goal.returns-in-Ok
returns-in-Ok c =
    met_by_shown _ (view_parts c.in-Ok.shown) (IsInFacility c.args.self.now.facility) _ c.in-Ok.ensures.some
    c.in-Ok.ensures.whole (λ r shown.
    subst (λ (n : ℕ). IsTrue c.is_of.result ↔ (n / 8 ≡ facility_code c.args.self.now.facility))
    (c.priority.ensures ∙ shown.priority) c.is_of.ensures)
