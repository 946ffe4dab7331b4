use Rattle.std.proofs.Common.{List, ℕ, subst, sym, ◌∙◌}
use Rattle.archive_text.specs.Periods.{IsPeriodOf}
use Rattle.archive_text.specs.declared.period.Period.TheVariants.{Day}
use Rattle.archive_text.proofs.Names.{one_name}
use Rattle.store_reading.proofs.period.Period.is_day_of.Goals as goal

pub returns : goal.returns
returns c = (
  λ h. subst (λ (p : List ℕ). IsPeriodOf Day c.args.instant p) (sym (c.is.ensures.0 h ∙ c.of.ensures.same))
      c.of-day.ensures,
  λ h. c.is.ensures.1 (one_name Day c.args.instant c.args.self.now c.of-day.result h c.of-day.ensures
      ∙ sym c.of.ensures.same),
)
