use Rattle.std.proofs.Common.{◌∙◌, arith, inr, length, take}
use Rattle.std.proofs.lemmas.Result.{err_from_is_err_and}
use Rattle.driver.specs.Effects.{done_of, written}
use Rattle.driver.proofs.Known.{call_next, came_short}
use Rattle.driver.proofs.Turns.{at_end, at_end_memory, at_failure, at_finish, at_last, at_memory, few_octets, flush_fails, turned}
use Rattle.driver.proofs.run.read_through.Goals as goal

pub returns-in_default-clause-ran : goal.returns-in_default-clause-ran
returns-in_default-clause-ran g c = λ begun.
    let i = c.loop-turn.invariant in
    at_failure _ (g.S.Session.means c.args.session.now) _ _ _ _ (done_of c.loop-turn.effects) c.loop-turn._turn _
    (i.reached begun) (omega (arith, c.loop-turn-test.true)) i.calls i.sound i.ends c.in_default.ensures

pub returns-in_default-clause-due : goal.returns-in_default-clause-due
returns-in_default-clause-due g c = λ small is. (
  c.loop-turn.input,
  call_next _ _ _ _ small.0 (omega (arith, c.loop-turn-test.true, c.requires.lawful.few)) (c.loop-turn.invariant.calls small)
      c.in_default.ensures.counted,
  c.loop-turn.invariant.due small,
)

pub returns-in_err-end-clause-ran : goal.returns-in_err-end-clause-ran
returns-in_err-end-clause-ran g c = λ begun.
    let i = c.loop-turn.invariant in
    let r = i.reached begun in
    let p = err_from_is_err_and c.from_residual.result c.from_residual.ensures.1 in
    rw (p.1, p.2) (at_end_memory _ (g.S.Session.means c.args.session.now) _ _ _ _ (done_of c.loop-turn.effects)
    (done_of c.end.new.effects) c.loop-turn._turn c.in-Ok.n c.read.new.buf _ r c.requires.lawful.some
    (omega (arith, c.loop-turn-test.true)) (omega (arith, i.room)) i.calls i.sound i.ends c.in-Ok.ensures
    c.if-n-eq0.true
    (c.in_err-end.ensures c.args.session.now r.given (written r.output r.diagnostics) r.means.stands r.means.so_far))

pub returns-then-n-eq0-clause-ran : goal.returns-then-n-eq0-clause-ran
returns-then-n-eq0-clause-ran g c = λ begun.
    let i = c.loop-turn.invariant in
    let r = i.reached begun in
    at_end _ (g.S.Session.means c.args.session.now) _ _ _ _ (done_of c.loop-turn.effects) (done_of c.end.new.effects)
    c.loop-turn._turn c.in-Ok.n c.read.new.buf _ tt r c.requires.lawful.some (omega (arith, c.loop-turn-test.true))
    (omega (arith, i.room)) i.calls i.sound i.ends c.in-Ok.ensures c.if-n-eq0.true
    (c.in_ok-end.ensures c.args.session.now r.given (written r.output r.diagnostics) r.means.stands r.means.so_far)

pub returns-in_err-take-clause-ran : goal.returns-in_err-take-clause-ran
returns-in_err-take-clause-ran g c = λ begun.
    let i = c.loop-turn.invariant in
    let r = i.reached begun in
    let p = err_from_is_err_and c.from_residual-in_err-take.result c.from_residual-in_err-take.ensures.1 in
    rw (p.1, p.2) (at_memory _ (g.S.Session.means c.args.session.now) _ _ _ _ (done_of c.loop-turn.effects)
    (done_of c.take.new.effects) c.loop-turn._turn c.in-Ok.n c.read.new.buf _ r (omega (arith, c.loop-turn-test.true))
    (omega (arith, i.room)) i.calls i.sound i.ends c.in-Ok.ensures (omega (arith, c.if-n-eq0.false))
    (c.in_err-take.ensures c.args.session.now r.given (written r.output r.diagnostics) r.means.stands r.means.so_far
    (few_octets _ c.loop-turn._turn c.in-Ok.n r.given c.read.new.buf c.requires.lawful r.means.few (omega (arith, c.loop-turn-test.true))
    c.in-Ok.ensures.within (omega (arith, c.loop-turn.invariant.room)))))

pub returns-in-Finished-clause-ran : goal.returns-in-Finished-clause-ran
returns-in-Finished-clause-ran g c = λ begun.
    let i = c.loop-turn.invariant in
    let r = i.reached begun in
    at_finish _ (g.S.Session.means c.args.session.now) _ _ _ _ (done_of c.loop-turn.effects) (done_of c.take.new.effects)
    c.loop-turn._turn c.in-Ok.n c.read.new.buf _ tt r (omega (arith, c.loop-turn-test.true)) (omega (arith, i.room)) i.calls i.sound
    i.ends c.in-Ok.ensures (omega (arith, c.if-n-eq0.false))
    (rw c.in-Finished.is at (c.in_ok-take.ensures c.args.session.now r.given (written r.output r.diagnostics)
    r.means.stands r.means.so_far
    (few_octets _ c.loop-turn._turn c.in-Ok.n r.given c.read.new.buf c.requires.lawful r.means.few (omega (arith, c.loop-turn-test.true))
    c.in-Ok.ensures.within (omega (arith, c.loop-turn.invariant.room)))))

pub returns-in_err-flush_due-in-Continue-clause-ran : goal.returns-in_err-flush_due-in-Continue-clause-ran
returns-in_err-flush_due-in-Continue-clause-ran g c = λ begun.
    let i = c.loop-turn.invariant in
    let r = i.reached begun in
    let goes = rw c.in-Continue.is at (c.in_ok-take.ensures c.args.session.now r.given (written r.output r.diagnostics)
    r.means.stands r.means.so_far
    (few_octets _ c.loop-turn._turn c.in-Ok.n r.given c.read.new.buf c.requires.lawful r.means.few (omega (arith, c.loop-turn-test.true))
    c.in-Ok.ensures.within (omega (arith, c.loop-turn.invariant.room)))) in
    let p = err_from_is_err_and c.from_residual-in_err-flush_due-in-Continue.result
    c.from_residual-in_err-flush_due-in-Continue.ensures.1 in
    rw p.1 (flush_fails _ (g.S.Session.means c.args.session.now) _ _ _ _ _ _ (done_of c.loop-turn.effects)
    (done_of c.take.new.effects) _ c.loop-turn._turn c.in-Ok.n c.read.new.buf _ p.0 r
    (omega (arith, c.loop-turn-test.true)) (omega (arith, i.room)) i.calls i.sound i.ends c.in-Ok.ensures
    (omega (arith, c.if-n-eq0.false)) goes.1 (rw p.2 c.in_err-flush_due-in-Continue.ensures.flushes))

pub loop-turn-preserved : goal.loop-turn-preserved
loop-turn-preserved g c =
    let i = c.loop-turn.invariant in
    record {
      reached = λ begun.
          let r = i.reached begun in
          let goes = rw c.in-Continue.is at (c.in_ok-take.ensures c.args.session.now r.given
          (written r.output r.diagnostics) r.means.stands r.means.so_far
          (few_octets _ c.loop-turn._turn c.in-Ok.n r.given c.read.new.buf c.requires.lawful r.means.few
          (omega (arith, c.loop-turn-test.true)) c.in-Ok.ensures.within (omega (arith, c.loop-turn.invariant.room)))) in
          turned _ (g.S.Session.means c.args.session.now) _ _ _ _ _ _ _ (done_of c.loop-turn.effects)
          (done_of c.take.new.effects) _ c.loop-turn._turn c.in-Ok.n c.read.new.buf r (omega (arith, i.room)) c.in-Ok.ensures
          (omega (arith, c.if-n-eq0.false)) goes.0 goes.1 c.in_ok-flush_due-in-Continue.ensures.flushes;
      calls = λ small. omega (arith, i.calls small, c.in-Ok.ensures.counted, small.0, c.loop-turn-test.true);
      sound = c.in-Ok.ensures.no_failure ∙ i.sound;
      ends = c.in-Ok.ensures.no_end (omega (arith, c.if-n-eq0.false)) ∙ i.ends;
      room = omega (arith, i.room);
      due = λ small.
          inr (record {
            before = c.loop-turn.input;
            piece = take c.in-Ok.n c.read.new.buf;
            call = call_next _ _ _ _ small.0 (omega (arith, c.loop-turn-test.true, c.requires.lawful.few)) (i.calls small)
                c.in-Ok.ensures.counted;
            gave = c.in-Ok.ensures.octets;
            written = λ short. c.in_ok-flush_due-in-Continue.ensures.due
                (came_short _ (length c.read.new.buf) c.read.new.buf c.in-Ok.ensures.within
                (omega (arith, short, i.room)));
          });
    }

pub returns-clause-ran : goal.returns-clause-ran
returns-clause-ran g c = λ begun.
    let i = c.loop-turn.invariant in
    at_last _ (g.S.Session.means c.args.session.now) _ _ _ (done_of c.loop-turn.effects) c.loop-turn._turn _
    (i.reached begun) (omega (arith, c.loop-turn-test.false)) i.calls i.sound i.ends
