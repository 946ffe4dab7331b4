use Rattle.std.proofs.Common.{inl, inr, refl}
use Rattle.commands.proofs.joining.join_files.Goals as goal

pub returns-in-Err : goal.returns-in-Err
returns-in-Err g c =
    elim c.in-Err.ensures.told [ inl memory ↦ inl (refl, memory) | inr lacks ↦ inr (inl (refl, lacks)) ]
