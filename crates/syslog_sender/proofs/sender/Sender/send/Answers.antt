use Rattle.std.proofs.Common.{[], refl, inr}
use Rattle.std.proofs.KnownBytes.{Appends-nil}
use Rattle.syslog_sender.proofs.sender.Sender.send.Goals as goal
use Rattle.syslog_fields.proofs.CanonicalTexts.{canonical_some}

pub returns-in-None-clause-step : goal.returns-in-None-clause-step
returns-in-None-clause-step g c =
    λ answered. (
      refl,
      [],
      inr (
        (λ passes. let some = rw c.in-None.is at (c.in_ok-octets.ensures.sent.1 passes) in cc),
        refl,
      ),
      Appends-nil _,
    )

pub write_frame-requires : goal.write_frame-requires
write_frame-requires g c = rw c.as_slice.ensures.value (canonical_some _ _ (rw c.in-Some.is at c.in_ok-octets.ensures.ok))
