use Rattle.std.proofs.Common.{ℤ, subst}
use Rattle.std.specs.Prelude.{Some}
use Rattle.archive_text.specs.Periods.{IsPeriodOf}
use Rattle.archive_text.specs.declared.period.Period.TheVariants.{Day}
use Rattle.store_expiry.proofs.room.left_at.Goals as goal

pub returns : goal.returns
returns c = record {
  day = c.of.result;
  of = subst (λ (z : ℤ). IsPeriodOf Day (Some z) c.of.result) c.midnight.ensures c.of.ensures;
  left_is = c.octets_left.ensures;
}
