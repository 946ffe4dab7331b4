use Rattle.std.proofs.Common.{refl}
use Rattle.store_expiry.proofs.Surveying.{tally_expired, tally_left}
use Rattle.store_expiry.proofs.tally.Tally.add.Goals as goal

pub returns-then-is_expired : goal.returns-then-is_expired
returns-then-is_expired c x es e means h =
    tally_expired x es e c.args.self.now _ h (means.0 c.if-is_expired.true) c.saturating_add-self.ensures refl refl

pub returns-else-is_expired : goal.returns-else-is_expired
returns-else-is_expired c x es e means h =
    tally_left x es e c.args.self.now _ h (λ is. let yes = means.1 is in absurd (cc (c.if-is_expired.false, yes)))
    c.saturating_add-self.ensures refl refl
