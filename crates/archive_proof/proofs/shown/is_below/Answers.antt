use Rattle.std.proofs.Common.{rules}
use Rattle.archive_text.proofs.Orders.{below_is_less}
use Rattle.archive_proof.proofs.shown.is_below.Goals as goal

pub returns-in_default : goal.returns-in_default
returns-in_default c = (
  λ h. search rules,
  λ below. absurd (c.in_default.not-Less (below_is_less _ _ c.compare.result c.compare.ensures below)),
)
