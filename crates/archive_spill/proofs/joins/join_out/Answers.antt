use Rattle.archive_spill.proofs.JoinedRuns.{joined_out, stopped_out}
use Rattle.archive_spill.proofs.joins.join_out.Goals as goal

pub returns-in-Ok : goal.returns-in-Ok
returns-in-Ok g c = λ xss ys runs archive united. record {
  octets = joined_out _ _ _ _ _ xss ys runs archive united c.in-Ok.ensures.outcome;
  no_failure = c.in-Ok.ensures.told.writer;
}

pub returns-in-Err : goal.returns-in-Err
returns-in-Err g c = λ xss ys runs archive united.
    rw c.fault_of.ensures (stopped_out (Unit {0}) (Unit {0}) c.in-Err.fault _ _ _ _ xss ys runs archive united
    c.in-Err.ensures.outcome c.in-Err.ensures.told.writer)
