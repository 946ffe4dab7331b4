-- Which device failed depends on the fault alone.
use Rattle.std.proofs.Common.{Some, Err}
use Rattle.octet_devices.specs.Device.{InputState, OutputState}
use Rattle.proof_engine.specs.Confirmed.{ConfirmFailures, result_of as confirm_result_of}
use Rattle.proof_engine.specs.Proved.{ProveFailures, result_of as prove_result_of}
use Rattle.proof_engine.specs.declared.confirm.ConfirmFault.{ConfirmFault}
use Rattle.proof_engine.specs.declared.confirm.ConfirmFault.TheVariants as confirm
use Rattle.proof_engine.specs.declared.prove.ProveFault.{ProveFault}
use Rattle.proof_engine.specs.declared.prove.ProveFault.TheVariants as prove

pub same_prove_failures : {X : Type 0} (fault : ProveFault) (q r d e : InputState) (w v : OutputState)
    → ProveFailures {X = X} (Err fault) q r d e w v → ProveFailures (prove_result_of (Some fault)) q r d e w v
same_prove_failures (prove.Records f) q r d e w v t =
    record { records = t.records; reader = t.reader; writer = t.writer }
same_prove_failures (prove.Archive f) q r d e w v t =
    record { records = t.records; reader = t.reader; writer = t.writer }

pub same_confirm_failures : {X : Type 0} (fault : ConfirmFault) (q r d e : InputState) (w v : OutputState)
    → ConfirmFailures {X = X} (Err fault) q r d e w v → ConfirmFailures (confirm_result_of (Some fault)) q r d e w v
same_confirm_failures (confirm.Records f) q r d e w v t = record {
  readers = record { records = t.readers.records; reader = t.readers.reader };
  writer = t.writer;
}
same_confirm_failures confirm.Read q r d e w v t = record {
  readers = record { records = t.readers.records; reader = t.readers.reader };
  writer = t.writer;
}
same_confirm_failures confirm.TooLong q r d e w v t = record {
  readers = record { records = t.readers.records; reader = t.readers.reader };
  writer = t.writer;
}
same_confirm_failures (confirm.Trailing at) q r d e w v t = record {
  readers = record { records = t.readers.records; reader = t.readers.reader };
  writer = t.writer;
}
same_confirm_failures (confirm.Write sent) q r d e w v t = record {
  readers = record { records = t.readers.records; reader = t.readers.reader };
  writer = t.writer;
}
same_confirm_failures confirm.Memory q r d e w v t = record {
  readers = record { records = t.readers.records; reader = t.readers.reader };
  writer = t.writer;
}
