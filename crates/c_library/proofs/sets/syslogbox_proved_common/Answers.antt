use Rattle.std.proofs.Common.{rules}
use Rattle.c_library.specs.Sets.{CommonOf}
use Rattle.c_library.specs.Unions.{IsNoUnion}
use Rattle.std.proofs.lemmas.Int.{to_z-of_z}
use mir.Syntax.{w64}
use Rattle.c_library.proofs.Answering.{answered}
use Rattle.c_library.proofs.sets.syslogbox_proved_common.Goals as goal

pub returns : goal.returns
returns c =
    answered (CommonOf c.args.left.now c.args.right.now)
    (IsNoUnion c.args.left.now c.args.right.now) _ _ _ (λ v. v.items)
    c.common_text.result c.common_text.ensures c.answer.ensures _
    (to_z-of_z w64 c.answer.result (search rules))
