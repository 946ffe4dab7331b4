use Rattle.std.proofs.Common.{[], ◌++◌, ◌∙◌, append-nil, append_assoc, inl, inr, refl, sym}
use Rattle.std.proofs.lemmas.Result.{err_from_is_err_and}
use Rattle.driver.specs.Effects.{done_of, then_done, written}
use Rattle.driver.proofs.Turns.{leads_answer, leads_part, leads_so_far}
use Rattle.driver.proofs.Ends.{part_begins, part_written, pumped_answer, pumped_fails, pumped_short, unsent_part}
use Rattle.driver.specs.Sessions.{with_rest}
use Rattle.driver.proofs.run.pump.Goals as goal

pub returns-in_err-flush-in-Ok : goal.returns-in_err-flush-in-Ok
returns-in_err-flush-in-Ok g c = λ begun.
    let M = g.S.Session.means c.args.session.now in
    let t = c.in-Ok.ensures.ran begun in
    let h = t.outcome in
    let held = done_of c.read_through.new.effects in
    let total = with_rest (then_done (written h.output h.diagnostics) held) (g.S.Session.rest c.read_through.new.session) in
    let p = err_from_is_err_and c.from_residual.result c.from_residual.ensures.1 in
    rw p.1 (pumped_fails _ M _ _ _ _ held total p.0 h.output h.diagnostics
    (g.S.Session.rest c.read_through.new.session)
    (λ laws input x known whole.
    let begins = leads_answer M _ h.input total h.is_input h.means laws input x known whole in
    (_ ++ begins.0, begins.1 ∙ append_assoc (h.output ++ held.output) _ begins.0))
    h.wrote.to_output h.wrote.to_diagnostics (inl (h.input, h.is_input, h.means)) refl
    (append-nil (h.diagnostics ++ held.diagnostics)) (rw p.2 c.in_err-flush-in-Ok.ensures.flushes) t.used)

pub returns-in-Ok-write_rest : goal.returns-in-Ok-write_rest
returns-in-Ok-write_rest g c = λ begun.
    let t = c.in-Ok.ensures.ran begun in
    pumped_answer _ (g.S.Session.means c.args.session.now) _ _ _ _ _ (done_of c.read_through.new.effects)
    (done_of c.flush.new.effects) _ _ t.outcome c.in_ok-flush-in-Ok.ensures.flushes c.in_ok-flush-in-Ok.ensures.clear
    c.in-Ok-write_rest.ensures c.status.ensures t.used

pub returns-in-Ok : goal.returns-in-Ok
returns-in-Ok g c = λ begun.
    let t = c.in-Ok.ensures.ran begun in
    let part = unsent_part _ _ _ _ c.in-Err.ensures in
    pumped_short _ (g.S.Session.means c.args.session.now) _ _ _ _ _ (done_of c.read_through.new.effects)
    (done_of c.flush.new.effects) _ part.0 part.1 t.outcome c.in_ok-flush-in-Ok.ensures.flushes
    c.in_ok-flush-in-Ok.ensures.clear part.2 part.4 part.3 c.in-Err.ensures.cause t.used

pub returns-in_err-flush-in-Err-Read : goal.returns-in_err-flush-in-Err-Read
returns-in_err-flush-in-Err-Read g c = λ begun.
    let M = g.S.Session.means c.args.session.now in
    let t = c.in-Err-Read.ensures.ran begun in
    let h = (rw c.in-Err-Read.field-0-is at t.outcome).1 in
    let held = done_of c.read_through.new.effects in
    let p = err_from_is_err_and c.from_residual-in_err-flush-in-Err-Read.result
    c.from_residual-in_err-flush-in-Err-Read.ensures.1 in
    rw p.1 (pumped_fails _ M _ _ _ _ held (then_done (written h.output h.diagnostics) held) p.0 h.output h.diagnostics []
    (leads_so_far M _ _ h.given (then_done (written h.output h.diagnostics) held) h.consumed h.means) h.wrote.to_output
    h.wrote.to_diagnostics (inr (h.given, h.consumed, inl h.means)) (sym (append-nil (h.output ++ held.output))) refl
    (rw p.2 c.in_err-flush-in-Err-Read.ensures.flushes) t.used)

pub returns-in-Err-Read : goal.returns-in-Err-Read
returns-in-Err-Read g c = λ begun.
    let M = g.S.Session.means c.args.session.now in
    let t = c.in-Err-Read.ensures.ran begun in
    let o = rw c.in-Err-Read.field-0-is at t.outcome in
    let h = o.1 in
    let held = done_of c.read_through.new.effects in
    let kept = done_of c.flush-in-Err-Read.new.effects in
    let f = c.in_ok-flush-in-Err-Read.ensures in
    record {
      outcome = (o.0, part_written M.so_far _ _ _ _ held kept h f.flushes f.clear);
      begins = part_begins M M.so_far _ _ _ _ held kept h
          (leads_so_far M _ _ h.given (then_done (written h.output h.diagnostics) held) h.consumed h.means) f.flushes f.clear;
      used = t.used;
    }

pub returns-in_err-flush-in-Err-Endless : goal.returns-in_err-flush-in-Err-Endless
returns-in_err-flush-in-Err-Endless g c = λ begun.
    let M = g.S.Session.means c.args.session.now in
    let t = c.in-Err-Endless.ensures.ran begun in
    let h = (rw c.in-Err-Endless.field-0-is at t.outcome).1 in
    let held = done_of c.read_through.new.effects in
    let p = err_from_is_err_and c.from_residual-in_err-flush-in-Err-Endless.result
    c.from_residual-in_err-flush-in-Err-Endless.ensures.1 in
    rw p.1 (pumped_fails _ M _ _ _ _ held (then_done (written h.output h.diagnostics) held) p.0 h.output h.diagnostics []
    (leads_so_far M _ _ h.given (then_done (written h.output h.diagnostics) held) h.consumed h.means) h.wrote.to_output
    h.wrote.to_diagnostics (inr (h.given, h.consumed, inl h.means)) (sym (append-nil (h.output ++ held.output))) refl
    (rw p.2 c.in_err-flush-in-Err-Endless.ensures.flushes) t.used)

pub returns-in-Err-Endless : goal.returns-in-Err-Endless
returns-in-Err-Endless g c = λ begun.
    let M = g.S.Session.means c.args.session.now in
    let t = c.in-Err-Endless.ensures.ran begun in
    let o = rw c.in-Err-Endless.field-0-is at t.outcome in
    let h = o.1 in
    let held = done_of c.read_through.new.effects in
    let kept = done_of c.flush-in-Err-Endless.new.effects in
    let f = c.in_ok-flush-in-Err-Endless.ensures in
    record {
      outcome = (o.0, part_written M.so_far _ _ _ _ held kept h f.flushes f.clear);
      begins = part_begins M M.so_far _ _ _ _ held kept h
          (leads_so_far M _ _ h.given (then_done (written h.output h.diagnostics) held) h.consumed h.means) f.flushes f.clear;
      used = t.used;
    }

pub returns-in_err-flush-in-Err-Memory : goal.returns-in_err-flush-in-Err-Memory
returns-in_err-flush-in-Err-Memory g c = λ begun.
    let M = g.S.Session.means c.args.session.now in
    let t = c.in-Err-Memory.ensures.ran begun in
    let h = (rw c.in-Err-Memory.field-0-is at t.outcome).1 in
    let held = done_of c.read_through.new.effects in
    let p = err_from_is_err_and c.from_residual-in_err-flush-in-Err-Memory.result
    c.from_residual-in_err-flush-in-Err-Memory.ensures.1 in
    rw p.1 (pumped_fails _ M _ _ _ _ held (then_done (written h.output h.diagnostics) held) p.0 h.output h.diagnostics []
    (leads_part M _ _ h.given (then_done (written h.output h.diagnostics) held) h.consumed h.means) h.wrote.to_output
    h.wrote.to_diagnostics (inr (h.given, h.consumed, inr h.means)) (sym (append-nil (h.output ++ held.output))) refl
    (rw p.2 c.in_err-flush-in-Err-Memory.ensures.flushes) t.used)

pub returns-in-Err-Memory : goal.returns-in-Err-Memory
returns-in-Err-Memory g c = λ begun.
    let M = g.S.Session.means c.args.session.now in
    let t = c.in-Err-Memory.ensures.ran begun in
    let o = rw c.in-Err-Memory.field-0-is at t.outcome in
    let h = o.1 in
    let held = done_of c.read_through.new.effects in
    let kept = done_of c.flush-in-Err-Memory.new.effects in
    let f = c.in_ok-flush-in-Err-Memory.ensures in
    record {
      outcome = (o.0, part_written M.part _ _ _ _ held kept h f.flushes f.clear);
      begins = part_begins M M.part _ _ _ _ held kept h
          (leads_part M _ _ h.given (then_done (written h.output h.diagnostics) held) h.consumed h.means) f.flushes f.clear;
      used = t.used;
    }

pub returns-in-Err-Write : goal.returns-in-Err-Write
returns-in-Err-Write g c = λ begun.
    let t = c.in-Err-Write.ensures.ran begun in
    record { outcome = rw c.in-Err-Write.field-0-is at t.outcome; begins = t.begins; used = t.used }
