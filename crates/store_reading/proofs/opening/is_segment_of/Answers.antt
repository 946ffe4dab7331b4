use Rattle.std.proofs.lemmas.Bool.{false≢true}
use Rattle.store_reading.proofs.opening.is_segment_of.Goals as goal

pub returns-in-None : goal.returns-in-None
returns-in-None c = (
  λ h. absurd (false≢true h),
  λ segment. absurd (cc (c.in-None.ensures.only c.args.period.now c.as_octets-text.ensures.period segment)),
)
