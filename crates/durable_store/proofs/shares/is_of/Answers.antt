use Rattle.std.proofs.Common.{subst, sym, ◌∙◌}
use Rattle.std.specs.Prelude.{ℤ, Option, take}
use Rattle.std.proofs.lemmas.Slice.Eq.{bytes_eq-Decides}
use Rattle.archive_text.specs.Periods.{IsPeriodOf}
use Rattle.archive_text.specs.declared.period.Period.TheVariants.{Day}
use Rattle.durable_store.proofs.Runs.{day_is_front}
use Rattle.durable_store.proofs.shares.is_of.Goals as goal

pub returns-in-Some : goal.returns-in-Some
returns-in-Some c =
    let day = c.args.day.now in
    let time = c.canonical_timestamp-time.result in
    let decides = bytes_eq-Decides day (take 10 time) in (
      λ yes. subst (λ (i : Option ℤ). IsPeriodOf Day i day) (sym c.in-Some.is)
          (time, c.canonical_timestamp-time.ensures, decides.0 (sym c.eq-in-Some.ensures ∙ yes)),
      λ is. c.eq-in-Some.ensures
          ∙ decides.1 (day_is_front c.in-Some.instant time day c.canonical_timestamp-time.ensures
          (subst (λ (i : Option ℤ). IsPeriodOf Day i day) c.in-Some.is is)),
    )
