use Rattle.std.proofs.Common.{◌<◌, ◌^◌, List, length, arith}
use Rattle.std.proofs.lemmas.Result.{err_from_is_err_and}
use Rattle.archive_text.specs.Entries.{Entry}
use Rattle.archive_streams.proofs.EntrySteps.{begun_whole}
use Rattle.archive_proof.specs.Asking.{asked_entries}
use Rattle.proof_engine.proofs.Steps.{few_read}
use Rattle.proof_engine.proofs.proving.prove_asked.Goals as goal

pub returns-in_err-read_all-clause-outcome : goal.returns-in_err-read_all-clause-outcome
returns-in_err-read_all-clause-outcome g c =
    let p = err_from_is_err_and c.from_residual.result c.from_residual.ensures.1 in
    rw (p.1, p.2) (c.in_err-read_all.ensures.outcome (asked_entries c.args.asked.items) c.in-Ok.ensures)

pub returns-in-Ok-finish-clause-outcome : goal.returns-in-Ok-finish-clause-outcome
returns-in-Ok-finish-clause-outcome g c =
    let rs : List Entry = asked_entries c.args.asked.items in
    let w = c.in_ok-read_all.ensures.outcome rs c.in-Ok.ensures in
    let few : length w.xs < 2 ^ 63 = few_read _ _ w.xs (begun_whole _ _ w.xs w.whole) in
    record {
      xs = w.xs;
      head = c.in-Ok-finish.field-0-0;
      whole = w.whole;
      root = c.in-Ok-finish.ensures.head rs w.xs (omega (arith, few)) w.taken;
      proofs = c.in-Ok-finish.ensures.text rs w.xs (omega (arith, few)) w.taken;
    }
