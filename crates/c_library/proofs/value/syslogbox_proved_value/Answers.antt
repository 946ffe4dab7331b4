use Rattle.std.proofs.Common.{◌≡◌, rules}
use Rattle.c_library.specs.Faults.{memory_fault}
use Rattle.c_library.specs.Items.{MeaningOf}
use Rattle.std.proofs.lemmas.Int.{to_z-of_z}
use mir.Syntax.{w64}
use Rattle.c_library.proofs.Answering.{answered}
use Rattle.c_library.proofs.value.syslogbox_proved_value.Goals as goal

pub returns : goal.returns
returns c =
    answered (MeaningOf c.args.raw.now) (λ told. told ≡ memory_fault) _ _ _ (λ v. v.items)
    c.value_text.result c.value_text.ensures c.answer.ensures _
    (to_z-of_z w64 c.answer.result (search rules))
