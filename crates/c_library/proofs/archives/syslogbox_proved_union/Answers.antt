use Rattle.std.proofs.Common.{rules}
use Rattle.c_library.specs.Unions.{IsNoUnion, UnionOf}
use Rattle.std.proofs.lemmas.Int.{to_z-of_z}
use mir.Syntax.{w64}
use Rattle.c_library.proofs.Answering.{answered}
use Rattle.c_library.proofs.archives.syslogbox_proved_union.Goals as goal

pub returns : goal.returns
returns c =
    answered (UnionOf c.args.left.now c.args.right.now) (IsNoUnion c.args.left.now c.args.right.now) _ _ _ (λ v. v.items)
    c.union_text.result c.union_text.ensures c.answer.ensures _
    (to_z-of_z w64 c.answer.result (search rules))
