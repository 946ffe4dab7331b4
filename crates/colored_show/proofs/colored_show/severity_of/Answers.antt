use Rattle.std.proofs.Common.{◌%◌, ℕ, ℤ, ap, ◌∙◌}
use Rattle.syslog_value.specs.Parts.{Parts}
use Rattle.syslog_legacy.specs.FrameReadings.{octets_read}
use Rattle.syslog_legacy.specs.Views.{legacy_view_parts}
use Rattle.frame_engine.proofs.ReadingLemmas.{one_record}
use Rattle.colored_show.proofs.Colored.{shown_priority, well_formed}
use Rattle.colored_show.proofs.colored_show.severity_of.Goals as goal

pub returns-in-Record : goal.returns-in-Record
returns-in-Record c = λ way f r is record_is.
    let (few, shown) = is in
    let ((reads, new), shows) = rw c.in-Record.is at shown in
    let b = octets_read way f in
    c.severity.ensures
    ∙ ap (λ (n : ℕ). n % 8)
    (c.priority.ensures ∙ shown_priority r b c.in-Record.view (well_formed way.clock r b record_is.1 new) shows)

pub returns-in-Legacy : goal.returns-in-Legacy
returns-in-Legacy c = λ way f r is record_is.
    let (few, shown) = is in
    let (legacy, reads) = rw c.in-Legacy.is at shown in
    c.severity-in-Legacy.ensures
    ∙ ap (λ (n : ℕ). n % 8)
    (c.priority-in-Legacy.ensures
    ∙ ap (λ (p : Parts ℤ). p.priority) (one_record way f (legacy_view_parts c.in-Legacy.view) r (few, reads) record_is))
