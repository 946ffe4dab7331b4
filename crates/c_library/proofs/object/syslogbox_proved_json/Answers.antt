use Rattle.std.proofs.Common.{rules}
use Rattle.c_library.specs.Canonicals.{IsNoRecord}
use Rattle.c_library.specs.Jsons.{JsonOf}
use Rattle.std.proofs.lemmas.Int.{to_z-of_z}
use mir.Syntax.{w64}
use Rattle.c_library.proofs.Answering.{answered}
use Rattle.c_library.proofs.object.syslogbox_proved_json.Goals as goal

pub returns : goal.returns
returns c =
    answered (JsonOf c.args.octets.now) (IsNoRecord c.args.octets.now) _ _ _ (λ v. v.items)
    c.json_text.result c.json_text.ensures c.answer.ensures _
    (to_z-of_z w64 c.answer.result (search rules))
