use Rattle.std.proofs.Common.{◌<◌, ◌^◌, length, arith}
use Rattle.archive_tree.specs.Archives.{texts_of}
use Rattle.archive_tree.proofs.Archives.{count_of_texts}
use Rattle.archive_streams.proofs.EntrySteps.{begun_whole}
use Rattle.proof_engine.proofs.Steps.{few_read}
use Rattle.proof_engine.proofs.rooting.root_of.Goals as goal

pub returns-in-Ok-read_all-clause-outcome : goal.returns-in-Ok-read_all-clause-outcome
returns-in-Ok-read_all-clause-outcome g c =
    let w = c.in-Ok-read_all.ensures.outcome in
    let few : length w.xs < 2 ^ 63 = few_read _ _ w.xs (begun_whole _ _ w.xs w.whole) in
    record {
      xs = w.xs;
      whole = w.whole;
      root = c.finish.ensures.taken (texts_of w.xs) (omega (arith, few, count_of_texts w.xs)) w.taken;
    }
