use Rattle.syslog_reading.specs.ViewParts.{view_parts}
use Rattle.archive_sets.specs.Fields.{HasElementId}
use Rattle.archive_sets.proofs.Records.{met_by_shown}
use Rattle.archive_sets.proofs.element.HasElementCondition.holds.Goals as goal

pub returns-in-Ok : goal.returns-in-Ok
returns-in-Ok c =
    met_by_shown _ (view_parts c.in-Ok.shown) (HasElementId c.args.self.now.id.now) _ c.in-Ok.ensures.some
    c.in-Ok.ensures.whole (λ r shown.
    let test = c.has_id.ensures shown.elements (c.elements.ensures.elements shown.elements shown.spelled) in
    let ids = shown.ids c.args.self.now.id.now in (λ on. ids.0 (test.0 on), λ has. test.1 (ids.1 has)))
