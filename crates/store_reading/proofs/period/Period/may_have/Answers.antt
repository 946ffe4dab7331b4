use Rattle.std.proofs.Common.{inl, inr, sym, ◌∙◌}
use Rattle.std.proofs.lemmas.Bool.{false≢true}
use Rattle.store_reading.proofs.period.Period.may_have.Goals as goal

pub returns : goal.returns
returns c = (
  λ h. inl (c.is_day_of.ensures.0 h),
  λ h. elim h [
    | inl of ↦ c.is_day_of.ensures.1 of
    | inr mixed ↦ absurd (false≢true (sym c.if-is_mixed.false ∙ c.is_mixed.ensures.1 mixed))
  ],
)
