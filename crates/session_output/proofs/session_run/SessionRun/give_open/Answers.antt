use Rattle.std.proofs.Common.{[], ◌++◌, append-nil, arith, inl, inr, sym}
use Rattle.std.proofs.lemmas.List.{length-append}
use Rattle.std.proofs.lemmas.Result.{err_from_is_err_and}
use Rattle.driver.specs.Effects.{done_of, then_done, written}
use Rattle.session_output.proofs.Stops.{first_of, flush_stops, goes_on_flushed}
use Rattle.session_output.proofs.session_run.SessionRun.give_open.Goals as goal
use Rattle.session_output.proofs.session_run.SessionRun.give_open.Goals.{in-Finished, in-Continue}

pub returns-in_err-flush_due-clause-gives : goal.returns-in_err-flush_due-clause-gives
returns-in_err-flush_due-clause-gives g c = λ first start given on.
    let held = done_of c.args.self.now.effects in
    let p = err_from_is_err_and c.from_residual.result c.from_residual.ensures.1 in
    rw p.1 (flush_stops (g.S.Session.means first) start _ _ _ held (then_done (written on.output on.diagnostics) held) given
    p.0 on.output on.diagnostics [] on.wrote (inr (inl on.so_far)) (sym (append-nil (on.output ++ held.output)))
    (rw p.2 c.in_err-flush_due.ensures))

pub returns-then-piece-self-clause-gives : goal.returns-then-piece-self-clause-gives
returns-then-piece-self-clause-gives g c = λ first start given on.
    let f = goes_on_flushed (g.S.Session.means first) _ start _ _ _ _ (done_of c.flush_due.new.effects) _ given on
    c.in_ok-flush_due.ensures in
    record { cause = tt; first = first_of (g.S.Session.means first) _ start _ _ _ given f }

pub returns-in_err-flow-clause-gives : goal.returns-in_err-flow-clause-gives
returns-in_err-flow-clause-gives g c = λ first start given on.
    let f = goes_on_flushed (g.S.Session.means first) _ start _ _ _ _ (done_of c.flush_due.new.effects) _ given on
    c.in_ok-flush_due.ensures in
    let p = err_from_is_err_and c.from_residual-in_err-flow.result c.from_residual-in_err-flow.ensures.1 in
    rw (p.1, p.2) (record { cause = tt; first = first_of (g.S.Session.means first) _ start _ _ _ given f })

pub returns-clause-gives : goal.returns-clause-gives
returns-clause-gives g c = λ first start given on.
    let f = goes_on_flushed (g.S.Session.means first) _ start _ _ _ _ (done_of c.flush_due.new.effects) _ given on
    c.in_ok-flush_due.ensures in
    let goes = c.in_ok-flow.ensures first given (written f.output f.diagnostics) f.stands f.so_far
    (omega (arith, f.room_is, c.if-piece-self.false)) in
    elim c.match-flow.branch [
      | in-Finished w ↦ rw w.self-is (λ more. record {
        output = f.output;
        diagnostics = f.diagnostics;
        whole = (rw w.in-Finished.is at goes) more;
        wrote = f.wrote;
      })
      | in-Continue w ↦ rw w.self-is (record {
        output = f.output;
        diagnostics = f.diagnostics;
        stands = (rw w.in-Continue.is at goes).0;
        so_far = (rw w.in-Continue.is at goes).1;
        wrote = f.wrote;
        room_is = omega (arith, f.room_is, c.if-piece-self.false, length-append given c.args.piece.now);
      })
    ]
