use Rattle.store_expiry.proofs.Hours.{before_hour}
use Rattle.store_expiry.proofs.expired.Expired.before.Goals as goal

pub returns : goal.returns
returns c = λ e. before_hour c.args.time c.hour_of.result c.args.undated e.instant c.hour_of.ensures
