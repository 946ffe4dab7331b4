use Rattle.std.proofs.Common.{ℕ, ◌%◌, ◌≤◌, ◌∙◌, IsTrue, subst}
use Rattle.std.specs.Prelude.{◌↔◌}
use Rattle.syslog_value.specs.Severities.{severity_code}
use Rattle.syslog_reading.specs.ViewParts.{view_parts}
use Rattle.archive_sets.specs.Fields.{IsAsSevere}
use Rattle.archive_sets.proofs.Records.{met_by_shown}
use Rattle.archive_sets.proofs.fields.AsSevereAsCondition.holds.Goals as goal

pub returns-in-Ok : goal.returns-in-Ok
returns-in-Ok c =
    met_by_shown _ (view_parts c.in-Ok.shown) (IsAsSevere c.args.self.now.severity) _ c.in-Ok.ensures.some
    c.in-Ok.ensures.whole (λ r shown.
    subst (λ (n : ℕ). IsTrue c.is_as_severe.result ↔ (n % 8 ≤ severity_code c.args.self.now.severity))
    (c.priority.ensures ∙ shown.priority) c.is_as_severe.ensures)
