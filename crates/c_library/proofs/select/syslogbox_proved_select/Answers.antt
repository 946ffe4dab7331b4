use Rattle.std.proofs.Common.{rules}
use Rattle.c_library.specs.Selecting.{IsNoSelection, SelectionOf}
use Rattle.std.proofs.lemmas.Int.{to_z-of_z}
use mir.Syntax.{w64}
use Rattle.c_library.proofs.Answering.{answered}
use Rattle.c_library.proofs.select.syslogbox_proved_select.Goals as goal

pub returns : goal.returns
returns c =
    answered (SelectionOf c.args.condition.now c.args.archive.now)
    (IsNoSelection c.args.condition.now c.args.archive.now) _ _ _ (λ v. v.items)
    c.selection.result c.selection.ensures c.answer.ensures _
    (to_z-of_z w64 c.answer.result (search rules))
