use Rattle.std.specs.Prelude.{Ok}
use Rattle.backup_engine.proofs.run.backup_store.Goals as goal

pub returns-in-Ok-clause-ran : goal.returns-in-Ok-clause-ran
returns-in-Ok-clause-ran g c = record {
  ending = Ok c.in-Ok.done;
  ends = record {
    told = c.report_done.ensures;
    copied = λ reads sound. c.in-Ok.ensures.backup reads.0 reads.1 sound;
    all = λ reads sound none. c.in-Ok.ensures.all reads.0 reads.1 sound none;
    no_other = λ reads sound. c.in-Ok.ensures.no_other reads.0 reads.1 sound;
  };
  any_moment = c.backup.ensures.any_moment;
}
