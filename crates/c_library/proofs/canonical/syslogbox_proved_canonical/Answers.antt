use Rattle.std.proofs.Common.{rules}
use Rattle.c_library.specs.Canonicals.{CanonicalOf, IsNoRecord}
use Rattle.std.proofs.lemmas.Int.{to_z-of_z}
use mir.Syntax.{w64}
use Rattle.c_library.proofs.Answering.{answered}
use Rattle.c_library.proofs.canonical.syslogbox_proved_canonical.Goals as goal

pub returns : goal.returns
returns c =
    answered (CanonicalOf c.args.octets.now) (IsNoRecord c.args.octets.now) _ _ _ (λ v. v.items)
    c.canonical_text.result c.canonical_text.ensures c.answer.ensures _
    (to_z-of_z w64 c.answer.result (search rules))
