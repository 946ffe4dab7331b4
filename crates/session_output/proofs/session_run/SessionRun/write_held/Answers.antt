use Rattle.std.proofs.lemmas.Result.{err_from_is_err_and}
use Rattle.driver.specs.Effects.{done_of}
use Rattle.session_output.proofs.Stops.{flush_stops, held_written}
use Rattle.session_output.proofs.session_run.SessionRun.write_held.Goals as goal

pub returns-in_err-flush-clause-leaves : goal.returns-in_err-flush-clause-leaves
returns-in_err-flush-clause-leaves g c = λ first start given h.
    let p = err_from_is_err_and c.from_residual.result c.from_residual.ensures.1 in
    rw p.1 (flush_stops (g.S.Session.means first) start _ _ _ (done_of c.args.self.now.effects) h.done given p.0
    h.output h.diagnostics h.more h.wrote h.comes h.parts (rw p.2 c.in_err-flush.ensures.flushes))

pub returns-clause-leaves : goal.returns-clause-leaves
returns-clause-leaves g c = λ first start given h.
    held_written (g.S.Session.means first) start _ _ _ (done_of c.args.self.now.effects) (done_of c.flush.new.effects) given h
    c.in_ok-flush.ensures.flushes c.in_ok-flush.ensures.clear
