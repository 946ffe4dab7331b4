use Rattle.std.proofs.Common.{inl, refl}
use Rattle.std.proofs.lemmas.Result.{err_from_is_err_and}
use Rattle.driver.specs.Effects.{done_of, then_done, written}
use Rattle.driver.specs.Sessions.{with_rest}
use Rattle.driver.proofs.Ends.{unsent_part}
use Rattle.session_output.proofs.Stops.{flush_stops, rest_stops}
use Rattle.session_output.proofs.session_run.SessionRun.write_answer.Goals as goal

pub returns-in_err-flush-clause-ends : goal.returns-in_err-flush-clause-ends
returns-in_err-flush-clause-ends g c = λ first start text h.
    let held = done_of c.args.self.now.effects in
    let rest = g.S.Session.rest c.args.self.now.session in
    let p = err_from_is_err_and c.from_residual.result c.from_residual.ensures.1 in
    rw p.1 (flush_stops (g.S.Session.means first) start _ _ _ held
    (with_rest (then_done (written h.output h.diagnostics) held) rest) text p.0 h.output h.diagnostics rest h.wrote
    (inl h.whole) refl (rw p.2 c.in_err-flush.ensures.flushes))

pub returns-in-Err-clause-ends : goal.returns-in-Err-clause-ends
returns-in-Err-clause-ends g c = λ first start text h.
    let part = unsent_part _ _ _ _ c.in-Err.ensures in
    rest_stops (g.S.Session.means first) start _ _ _ _ (done_of c.args.self.now.effects) (done_of c.flush.new.effects) _ text
    part.0 part.1 h c.in_ok-flush.ensures.flushes c.in_ok-flush.ensures.clear part.2 part.3 c.in-Err.ensures.cause
