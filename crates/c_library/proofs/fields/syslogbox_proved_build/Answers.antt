use Rattle.std.proofs.Common.{rules}
use Rattle.c_library.specs.Building.{BuiltOf, IsNotBuilt}
use Rattle.std.proofs.lemmas.Int.{to_z-of_z}
use mir.Syntax.{w64}
use Rattle.c_library.proofs.Answering.{answered}
use Rattle.c_library.proofs.fields.syslogbox_proved_build.Goals as goal

pub returns : goal.returns
returns c =
    answered (BuiltOf c.args.fields.now) (IsNotBuilt c.args.fields.now) _ _ _ (λ v. v.items)
    c.built_text.result c.built_text.ensures c.answer.ensures _
    (to_z-of_z w64 c.answer.result (search rules))
