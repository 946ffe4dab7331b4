use Rattle.std.proofs.Common.{◌≡◌, ℤ, subst, sym, true}
use Rattle.std.specs.Prelude.{◌↔◌, Some}
use Rattle.archive_text.specs.Periods.{IsPeriodOf}
use Rattle.archive_text.specs.declared.period.Period.TheVariants.{Day}
use Rattle.store_expiry.specs.Expired.{IsBefore}
use Rattle.store_expiry.specs.Room.{goes}
use Rattle.store_expiry.proofs.Rooms.{gone_is}
use Rattle.store_expiry.proofs.room.expired_for_room.Goals as goal

pub returns-clause-days : goal.returns-clause-days
returns-clause-days c first day e begins of =
    let u = c.if-undated.undated in
    let found = c.least_midnight.ensures in
    subst (λ (z : ℤ). IsPeriodOf Day (Some z) first → (goes u first (Some day) ≡ true) ↔ IsBefore z u e.instant)
    (sym found.is) (λ b. gone_is u found.number first day e.instant b of) begins
