use Rattle.std.proofs.Common.{inr}
use Rattle.c_library.proofs.Itemizing.{passed}
use Rattle.c_library.proofs.fields.record_of.Goals as goal

pub returns-in_err-message : goal.returns-in_err-message
returns-in_err-message c =
    passed c.from_residual-in_err-message.result _ _ c.in_err-message.field-0.0 c.from_residual-in_err-message.ensures
    (inr (inr (inr (inr (inr (inr (inr c.in_err-message.ensures)))))))
