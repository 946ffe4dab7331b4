use Rattle.std.proofs.Common.{◌∙◌, subst, sym}
use Rattle.octet_devices.specs.Transfers.{WroteAll}
use Rattle.driver.proofs.Ends.{unsent_part, written_part}
use Rattle.session_output.proofs.flushing.flush.Goals as goal

pub returns-in-Ok-Err-clause-flushes : goal.returns-in-Ok-Err-clause-flushes
returns-in-Ok-Err-clause-flushes g c =
    let reported = rw c.in-Ok-Err.is-0 at c.write_all-reported.ensures in
    let written = rw c.in-Ok-Err.is-1 at c.write_all-written.ensures in
    let part = unsent_part _ _ _ _ written in
    record {
      sent = part.0;
      rest = part.1;
      begins = sym c.as_slice-2.ensures.value ∙ part.2;
      to_output = part.3;
      cause = (written.cause, subst (WroteAll _ _) c.as_slice.ensures.value reported, part.4);
    }

pub returns-in-Err-default-clause-flushes : goal.returns-in-Err-default-clause-flushes
returns-in-Err-default-clause-flushes g c =
    let part = written_part c.write_all-written.result _ _ _ c.write_all-written.ensures in
    let reported = rw c.in-Err-default.is-0 at c.write_all-reported.ensures in
    record {
      sent = part.0;
      rest = part.1;
      begins = sym c.as_slice-2.ensures.value ∙ part.2;
      to_output = part.3;
      cause = reported.cause;
    }
