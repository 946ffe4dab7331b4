use Rattle.std.proofs.Common.{◌≡◌, ◌<◌, ◌-◌, ◌^◌, ◌++◌, [], ◌∷◌, List, Bool, length, refl, sym, ◌∙◌, ap, subst, inl}
use Rattle.std.proofs.Common.{append_assoc, arith, rules}
use Rattle.std.specs.Prelude.{Ok, Err, ◌||◌}
use Rattle.std.proofs.KnownBytes.{Appends-trans}
use Rattle.std.proofs.lemmas.List.{append-nil}
use Rattle.syslog_frame.specs.declared.limits.TheConstants.{FRAME_MAX}
use Rattle.syslog_collect.specs.History.{AcceptedEvent, history_of}
use Rattle.syslog_collect.specs.Logs.{waiting}
use Rattle.syslog_collect.specs.Standing.{Stands}
use Rattle.collect_engine.specs.Lines.{has_some}
use Rattle.collect_engine.proofs.Serves.{appends_none, gave_none, gave_push, fails_later, has_some_append, one_more}
use Rattle.collect_engine.proofs.Serves.{serves_end, serves_one_more, serves_stop, step_here}
use Rattle.collect_engine.proofs.serving.serve_steps.Goals as goal

pub returns-in-Err-clause-served : goal.returns-in-Err-clause-served
returns-in-Err-clause-served g c first before was =
    let so_far = c.loop-turn.invariant.served first before was in
    let es = so_far.1 in
    let made = c.in-Err.ensures.served first (before ++ es) so_far.4 in
    let room : FRAME_MAX < length c.serve_next.new.buf = search rules in (
      so_far.0 ++ made.0 ∷ [],
      es ++ made.1,
      so_far.2 ++ made.2,
      gave_push _ _ _ (length c.serve_next.new.buf) so_far.0 made.0 (omega (arith, so_far.7, c.loop-turn-test.true)) room
          so_far.3 made.3,
      subst (λ (fs : List AcceptedEvent). Stands c.serve_next.new.collector.reading
          c.serve_next.new.collector.connections (g.S.Store.entries c.serve_next.new.collector.store) first fs)
          (append_assoc before es made.1) made.4,
      Appends-trans _ _ _ so_far.2 made.2 so_far.5 made.5,
      serves_stop c.args.collector.now.reading (history_of before) (waiting c.args.collector.now.connections)
          (waiting c.loop-turn.collector.connections) (waiting c.serve_next.new.collector.connections)
          c.loop-turn.lines.number so_far.0 made.0 es made.1 so_far.2 made.2 c.in-Err.stopped so_far.6
          (step_here c.args.collector.now.reading c.loop-turn.collector.reading before es
          (waiting c.loop-turn.collector.connections) (waiting c.serve_next.new.collector.connections)
          c.loop-turn.lines.number c.serve_next.new.lines.number (Err c.in-Err.stopped) made.0 made.1 made.2
          c.loop-turn.invariant.reading made.6),
    )

pub returns-in-Err-clause-failures : goal.returns-in-Err-clause-failures
returns-in-Err-clause-failures g c =
    fails_later {A = Bool} (Err c.in-Err.stopped) _ _ _ c.loop-turn.invariant.failures c.in-Err.ensures.failures

pub returns-in-Err-clause-settled : goal.returns-in-Err-clause-settled
returns-in-Err-clause-settled g c first before was settled =
    let so_far = c.loop-turn.invariant.served first before was in
    c.in-Err.ensures.settled first (before ++ so_far.1) so_far.4
    (c.loop-turn.invariant.settled first before was settled)

pub returns-in-Ok-true-clause-served : goal.returns-in-Ok-true-clause-served
returns-in-Ok-true-clause-served g c first before was =
    let so_far = c.loop-turn.invariant.served first before was in
    let es = so_far.1 in
    let made = c.in-Ok-true.ensures.served first (before ++ es) so_far.4 in
    let room : FRAME_MAX < length c.serve_next.new.buf = search rules in (
      so_far.0 ++ made.0 ∷ [],
      es ++ made.1,
      so_far.2 ++ made.2,
      gave_push _ _ _ (length c.serve_next.new.buf) so_far.0 made.0 (omega (arith, so_far.7, c.loop-turn-test.true)) room
          so_far.3 made.3,
      subst (λ (fs : List AcceptedEvent). Stands c.serve_next.new.collector.reading
          c.serve_next.new.collector.connections (g.S.Store.entries c.serve_next.new.collector.store) first fs)
          (append_assoc before es made.1) made.4,
      Appends-trans _ _ _ so_far.2 made.2 so_far.5 made.5,
      serves_end c.args.collector.now.reading (history_of before) (waiting c.args.collector.now.connections)
          (waiting c.loop-turn.collector.connections) (waiting c.serve_next.new.collector.connections)
          c.loop-turn.lines.number c.serve_next.new.lines.number so_far.0 made.0 es made.1 so_far.2 made.2
          c.serve_next.new.lines.refused c.loop-turn.lines.refused c.in-Ok-true.field-0 c.in-Ok-true.field-0-test
          so_far.6
          (step_here c.args.collector.now.reading c.loop-turn.collector.reading before es
          (waiting c.loop-turn.collector.connections) (waiting c.serve_next.new.collector.connections)
          c.loop-turn.lines.number c.serve_next.new.lines.number (Ok c.in-Ok-true.field-0) made.0 made.1 made.2
          c.loop-turn.invariant.reading made.6) so_far.8 made.7,
    )

pub returns-in-Ok-true-clause-settled : goal.returns-in-Ok-true-clause-settled
returns-in-Ok-true-clause-settled g c first before was settled =
    let so_far = c.loop-turn.invariant.served first before was in
    c.in-Ok-true.ensures.settled first (before ++ so_far.1) so_far.4
    (c.loop-turn.invariant.settled first before was settled)

pub returns-in_default-clause-served : goal.returns-in_default-clause-served
returns-in_default-clause-served g c first before was = (
  [],
  [],
  [],
  gave_none (g.R.Source.state c.args.source.now),
  subst (λ (es : List AcceptedEvent). Stands c.args.collector.now.reading c.args.collector.now.connections
      (g.S.Store.entries c.args.collector.now.store) first es) (sym (append-nil before)) was,
  appends_none (g.N.Output.state c.args.notes.now).taken,
  inl (refl, refl, refl),
)

pub loop-turn-init : goal.loop-turn-init
loop-turn-init g c = record {
  steps = search rules;
  finishes = search rules;
  reading = search rules;
  room = search rules;
  failures = search rules;
  served = λ first before was. (
    [],
    [],
    [],
    gave_none (g.R.Source.state c.args.source.now),
    subst (λ (es : List AcceptedEvent). Stands c.args.collector.now.reading c.args.collector.now.connections
        (g.S.Store.entries c.args.collector.now.store) first es) (sym (append-nil before)) was,
    appends_none (g.N.Output.state c.args.notes.now).taken,
    (λ d. refl, c.new-lines.ensures.number, refl, refl),
    refl,
    c.new-lines.ensures.refused,
  );
  settled = λ first before was settled. settled;
}

pub loop-turn-preserved : goal.loop-turn-preserved
loop-turn-preserved g c = record {
  steps = search rules;
  finishes = search rules;
  reading = search rules;
  room = search rules;
  failures = search rules;
  served = λ first before was.
      let so_far = c.loop-turn.invariant.served first before was in
      let es = so_far.1 in
      let made = c.in-Ok-false.ensures.served first (before ++ es) so_far.4 in
      let room : FRAME_MAX < length c.serve_next.new.buf = search rules in (
        so_far.0 ++ made.0 ∷ [],
        es ++ made.1,
        so_far.2 ++ made.2,
        gave_push _ _ _ (length c.serve_next.new.buf) so_far.0 made.0 (omega (arith, so_far.7, c.loop-turn-test.true)) room
            so_far.3 made.3,
        subst (λ (fs : List AcceptedEvent). Stands c.serve_next.new.collector.reading
            c.serve_next.new.collector.connections (g.S.Store.entries c.serve_next.new.collector.store) first fs)
            (append_assoc before es made.1) made.4,
        Appends-trans _ _ _ so_far.2 made.2 so_far.5 made.5,
        serves_one_more c.args.collector.now.reading (history_of before) (waiting c.args.collector.now.connections)
            (waiting c.loop-turn.collector.connections) (waiting c.serve_next.new.collector.connections)
            c.loop-turn.lines.number c.serve_next.new.lines.number so_far.0 made.0 es made.1 so_far.2 made.2
            c.in-Ok-false.field-0 c.in-Ok-false.field-0-test so_far.6
            (step_here c.args.collector.now.reading c.loop-turn.collector.reading before es
            (waiting c.loop-turn.collector.connections) (waiting c.serve_next.new.collector.connections)
            c.loop-turn.lines.number c.serve_next.new.lines.number (Ok c.in-Ok-false.field-0) made.0 made.1 made.2
            c.loop-turn.invariant.reading made.6),
        one_more so_far.0 made.0 c.loop-turn._turn so_far.7,
        made.7 ∙ ap (λ (b : Bool). b || has_some made.2) so_far.8 ∙ sym (has_some_append so_far.2 made.2),
      );
  settled = λ first before was settled.
      let so_far = c.loop-turn.invariant.served first before was in
      c.in-Ok-false.ensures.settled first (before ++ so_far.1) so_far.4
      (c.loop-turn.invariant.settled first before was settled);
}

pub returns-clause-served : goal.returns-clause-served
returns-clause-served g c first before was =
    let so_far = c.loop-turn.invariant.served first before was in
    let all : c.loop-turn._turn ≡ 1048576 = omega arith in
    (so_far.0, so_far.1, so_far.2, so_far.3, so_far.4, so_far.5, (c.loop-turn.lines.number, so_far.7 ∙ all, so_far.6))
