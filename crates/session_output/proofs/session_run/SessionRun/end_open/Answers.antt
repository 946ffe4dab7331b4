use Rattle.std.proofs.Common.{[], ◌++◌, append-nil, inr, sym}
use Rattle.std.proofs.lemmas.Result.{err_from_is_err_and}
use Rattle.driver.specs.Effects.{done_of, then_done, written}
use Rattle.session_output.proofs.Stops.{flush_stops, memory_stops}
use Rattle.session_output.proofs.session_run.SessionRun.end_open.Goals as goal

pub returns-in_err-flush-in-Err-clause-ends : goal.returns-in_err-flush-in-Err-clause-ends
returns-in_err-flush-in-Err-clause-ends g c = λ first start text on.
    let part = c.in-Err.ensures first text (written on.output on.diagnostics) on.stands on.so_far in
    let after = done_of c.end.new.effects in
    let p = err_from_is_err_and c.from_residual.result c.from_residual.ensures.1 in
    rw p.1 (flush_stops (g.S.Session.means first) start _ _ _ after (then_done (written on.output on.diagnostics) after)
    text p.0 on.output on.diagnostics [] on.wrote (inr (inr part)) (sym (append-nil (on.output ++ after.output)))
    (rw p.2 c.in_err-flush-in-Err.ensures.flushes))

pub returns-in-Ok-clause-ends : goal.returns-in-Ok-clause-ends
returns-in-Ok-clause-ends g c = λ first start text on.
    c.write_answer.ensures.ends first start text (record {
      output = on.output;
      diagnostics = on.diagnostics;
      whole = c.in-Ok.ensures first text (written on.output on.diagnostics) on.stands on.so_far;
      wrote = on.wrote;
    })

pub returns-in_ok-flush-in-Err-clause-ends : goal.returns-in_ok-flush-in-Err-clause-ends
returns-in_ok-flush-in-Err-clause-ends g c = λ first start text on.
    memory_stops (g.S.Session.means first) _ start _ _ _ _ (done_of c.end.new.effects) (done_of c.flush.new.effects) _ text on
    (c.in-Err.ensures first text (written on.output on.diagnostics) on.stands on.so_far)
    c.in_ok-flush-in-Err.ensures.flushes c.in_ok-flush-in-Err.ensures.clear
