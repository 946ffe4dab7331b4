use Rattle.std.proofs.Common.{inr, refl}
use Rattle.std.specs.Prelude.{codes}
use Rattle.std.proofs.lemmas.Bool.{false≢true}
use Rattle.store_reading.proofs.names.is_mixed.Goals as goal

pub returns-in-None : goal.returns-in-None
returns-in-None c = (
  λ h. absurd (false≢true h),
  λ segment. absurd (cc (c.in-None.ensures.only (codes "mixed") (inr refl) segment)),
)
