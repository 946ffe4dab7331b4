use Rattle.store_expiry.proofs.Finding.{of_day}
use Rattle.store_expiry.proofs.Hours.{before_in_range}
use Rattle.store_expiry.proofs.expired.Expired.spares.Goals as goal

pub returns-in-Some : goal.returns-in-Some
returns-in-Some c on period segment e of expired =
    c.is_outside.ensures.none on e
    (of_day c.in-Some.day c.args.name.now period e c.in-Some.ensures.some.0 c.in-Some.ensures.some.1 segment of)
    (before_in_range c.args.self.now.before c.args.self.now.undated e.instant expired)
