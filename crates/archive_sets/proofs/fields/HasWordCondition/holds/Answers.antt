use Rattle.std.proofs.Common.{◌≡◌, ℕ, ◌∙◌, List, Option, IsTrue, subst}
use Rattle.std.specs.Prelude.{◌↔◌, option_map}
use Rattle.syslog_reading.specs.ViewParts.{view_parts}
use Rattle.archive_sets.specs.Fields.{HasWordAt}
use Rattle.archive_sets.proofs.Records.{met_by_shown}
use Rattle.archive_sets.proofs.fields.HasWordCondition.holds.Goals as goal

pub returns-in-Ok : goal.returns-in-Ok
returns-in-Ok c =
    let word : Option (List ℕ) = option_map (λ s. s.now) c.args.self.now.word in
    met_by_shown _ (view_parts c.in-Ok.shown) (HasWordAt c.args.self.now.field word) _ c.in-Ok.ensures.some
    c.in-Ok.ensures.whole (λ r shown.
    subst (λ (w : Option (List ℕ)). IsTrue c.is_same.result ↔ (w ≡ word))
    (c.word_of.ensures ∙ shown.word c.args.self.now.field) c.is_same.ensures)
