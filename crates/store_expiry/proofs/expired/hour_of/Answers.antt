use Rattle.std.proofs.Common.{ℤ, rules, subst}
use Rattle.store_expiry.specs.Expired.{IsHourOf}
use Rattle.store_expiry.proofs.Hours.{hour_found}
use Rattle.store_expiry.proofs.expired.hour_of.Goals as goal

pub returns : goal.returns
returns c =
    subst (λ (z : ℤ). IsHourOf z c.in-Some.hour) c.micros-micros.ensures.value
    (hour_found c.micros-micros.result c.rem_euclid.result c.in-Some.hour c.micros-micros.ensures.range.0
    (search rules) (search rules)).is
