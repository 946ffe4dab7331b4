use Rattle.std.proofs.Common.{rules}
use Rattle.std.proofs.lemmas.Int.{to_z-of_z}
use mir.Syntax.{w32, w64}
use Rattle.c_library.specs.Digests.{DigestOf, IsNoDigest}
use Rattle.c_library.proofs.Answering.{answered}
use Rattle.c_library.proofs.digest.syslogbox_proved_digest.Goals as goal

pub returns : goal.returns
returns c =
    let h = rw (to_z-of_z w32 c.args.period c.ranges.period) at c.digested.ensures in
    answered (DigestOf c.args.period c.args.archive.now) (IsNoDigest c.args.period c.args.archive.now) _ _ _
    (λ v. v.items) c.digested.result h c.answer.ensures _ (to_z-of_z w64 c.answer.result (search rules))
