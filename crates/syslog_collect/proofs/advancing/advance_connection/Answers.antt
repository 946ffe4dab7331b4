use Rattle.std.proofs.Common.{◌≡◌, ◌+◌, length, inl, inr, refl, arith, ap}
use Rattle.syslog_frame.specs.Scan.{Scan}
use Rattle.syslog_collect.specs.declared.connection.Connection.{Connection}
use Rattle.syslog_collect.proofs.Hearing.{hears_advanced, hears_no_room, hears_waiting}
use Rattle.syslog_collect.proofs.Moving.{advanced, good_unless_failed, moved_none, pushed, released, too_long}
use Rattle.syslog_collect.proofs.Moving.{waiting, waiting_record}
use Rattle.syslog_collect.proofs.Pieces.{met_at_once}
use Rattle.syslog_collect.proofs.Taking.{ends_frame, in_turn, some_taken, stops_right}
use Rattle.syslog_collect.proofs.Waiting.{ready_none}
use Rattle.syslog_collect.proofs.advancing.advance_connection.Goals as goal

pub returns-in-Err-StreamTooLong-clause-cause : goal.returns-in-Err-StreamTooLong-clause-cause
returns-in-Err-StreamTooLong-clause-cause g c s handled at =
    let long = c.in-Err-StreamTooLong.ensures.too_long.0 (rw c.in-Err-StreamTooLong.field-0-is refl) in
    inr (too_long c.args.connection.now s handled c.args.piece.now long.0 long.1 at)

pub returns-in_default-clause-cause : goal.returns-in_default-clause-cause
returns-in_default-clause-cause g c s handled at =
    let e = c.in-Ok.ensures in
    inr (waiting_record c.args.reading c.args.connection.now c.push.new.self s handled c.args.piece.now c.in-Ok.used
    (pushed _ _ c.args.piece.now c.in-Ok.used e.failed e.too_long e.waits e.within e.position e.bound e.reads e.takes)
    c.in_default.ensures.spelled at)

pub returns-in_default-clause-moves : goal.returns-in_default-clause-moves
returns-in_default-clause-moves g c s handled at =
    let e = c.in-Ok.ensures in
    waiting c.args.reading c.args.connection.now _ _ _ c.args.piece.now c.in-Ok.used s handled refl
    (pushed _ _ c.args.piece.now c.in-Ok.used e.failed e.too_long e.waits e.within e.position e.bound e.reads e.takes)
    c.in_default.ensures.waits c.in_default.ensures.err at

pub returns-in_default-clause-drops : goal.returns-in_default-clause-drops
returns-in_default-clause-drops g c s handled at =
    let e = c.in-Ok.ensures in
    waiting c.args.reading c.args.connection.now _ _ _ c.args.piece.now c.in-Ok.used s handled refl
    (pushed _ _ c.args.piece.now c.in-Ok.used e.failed e.too_long e.waits e.within e.position e.bound e.reads e.takes)
    c.in_default.ensures.waits c.in_default.ensures.err at

pub returns-clause-cause : goal.returns-clause-cause
returns-clause-cause g c s handled at =
    let e = c.in-Ok.ensures in
    let p = pushed _ _ c.args.piece.now c.in-Ok.used e.failed e.too_long e.waits e.within e.position e.bound e.reads
    e.takes in
    inr (good_unless_failed c.args.connection.now s handled p.live at)

pub returns-clause-moves : goal.returns-clause-moves
returns-clause-moves g c s handled at =
    let e = c.in-Ok.ensures in
    let r = c.release.ensures in
    advanced c.args.reading c.args.connection.now _ c.push.new.self _ _ c.args.piece.now c.in-Ok.used (c.in-Ok.used + 1)
    c.in-Ok-handle_ready.outcome s handled refl
    (pushed _ _ c.args.piece.now c.in-Ok.used e.failed e.too_long e.waits e.within e.position e.bound e.reads e.takes)
    c.in-Ok-handle_ready.ensures.handles
    (released _ _ c.release.result r.value r.same r.frame r.failed r.reads) (λ lt. (omega arith, omega (arith, lt))) at

pub returns-clause-drops : goal.returns-clause-drops
returns-clause-drops g c s handled at =
    let e = c.in-Ok.ensures in
    let r = c.release.ensures in
    advanced c.args.reading c.args.connection.now _ c.push.new.self _ _ c.args.piece.now c.in-Ok.used
    (length c.args.piece.now) c.in-Ok-handle_ready.outcome s handled refl
    (pushed _ _ c.args.piece.now c.in-Ok.used e.failed e.too_long e.waits e.within e.position e.bound e.reads e.takes)
    c.in-Ok-handle_ready.ensures.handles
    (released _ _ c.release.result r.value r.same r.frame r.failed r.reads) (λ lt. (lt, omega arith)) at

pub returns-clause-progress : goal.returns-clause-progress
returns-clause-progress g c =
    met_at_once c.args.reading c.args.connection.now.scanner c.push.new.self _ _ c.in-Ok.used _
    c.in-Ok-handle_ready.outcome (λ f. let e = c.in-Ok.ensures.failed.1 f in absurd (cc)) c.in-Ok.ensures.progress
    c.in-Ok-handle_ready.ensures.handles

pub returns-in-Err-StreamTooLong-clause-taken : goal.returns-in-Err-StreamTooLong-clause-taken
returns-in-Err-StreamTooLong-clause-taken g c s handled at =
    let long = c.in-Err-StreamTooLong.ensures.too_long.0 (rw c.in-Err-StreamTooLong.field-0-is refl) in
    inr (ready_none c.args.connection.now.scanner.phase (λ frame. long.0.0 (inl frame)))

pub returns-in_default-clause-taken : goal.returns-in_default-clause-taken
returns-in_default-clause-taken g c s handled at =
    let e = c.in-Ok.ensures in inr (
      in_turn c.args.connection.now s handled c.args.piece.now c.in-Ok.used
          (λ f. let e = c.in-Ok.ensures.failed.1 f in absurd (cc))
          (λ long. let e = c.in-Ok.ensures.too_long.1 long in absurd (cc))
          (λ ready. let e = (c.in-Ok.ensures.waits ready).0 in cc) at,
      ends_frame c.args.reading c.args.connection.now c.push.new.self s handled c.args.piece.now c.in-Ok.used
          (pushed _ _ c.args.piece.now c.in-Ok.used e.failed e.too_long e.waits e.within e.position e.bound e.reads
          e.takes) c.in_default.ensures.spelled at,
      some_taken c.args.reading c.args.connection.now c.push.new.self s handled c.args.piece.now c.in-Ok.used
          (pushed _ _ c.args.piece.now c.in-Ok.used e.failed e.too_long e.waits e.within e.position e.bound e.reads
          e.takes) c.in_default.ensures.spelled at,
    )

pub returns-clause-taken : goal.returns-clause-taken
returns-clause-taken g c s handled at =
    let e = c.in-Ok.ensures in inr (
      in_turn c.args.connection.now s handled c.args.piece.now c.in-Ok.used
          (λ f. let e = c.in-Ok.ensures.failed.1 f in absurd (cc))
          (λ long. let e = c.in-Ok.ensures.too_long.1 long in absurd (cc))
          (λ ready. let e = (c.in-Ok.ensures.waits ready).0 in cc) at,
      stops_right c.args.reading c.args.connection.now c.push.new.self _ _ c.args.piece.now c.in-Ok.used
          c.in-Ok-handle_ready.outcome s handled
          (pushed _ _ c.args.piece.now c.in-Ok.used e.failed e.too_long e.waits e.within e.position e.bound e.reads
          e.takes) c.in-Ok-handle_ready.ensures.handles e.takes at,
    )

pub returns-in_default-clause-hears : goal.returns-in_default-clause-hears
returns-in_default-clause-hears g c s handled at =
    let e = c.in-Ok.ensures in
    hears_waiting (g.O.Observer.observes) c.args.reading c.args.connection.now _ _ _ c.args.piece.now c.in-Ok.used s
    handled _ _ refl
    (pushed _ _ c.args.piece.now c.in-Ok.used e.failed e.too_long e.waits e.within e.position e.bound e.reads e.takes)
    c.in_default.ensures.waits c.in_default.ensures.err c.in_default.ensures.silent at

pub returns-clause-hears : goal.returns-clause-hears
returns-clause-hears g c s handled at =
    let e = c.in-Ok.ensures in
    let r = c.release.ensures in
    hears_advanced (g.O.Observer.observes) c.args.reading c.args.connection.now _ c.push.new.self _ _ c.args.piece.now
    c.in-Ok.used (length c.args.piece.now) c.in-Ok-handle_ready.outcome s handled _ _ refl
    (pushed _ _ c.args.piece.now c.in-Ok.used e.failed e.too_long e.waits e.within e.position e.bound e.reads e.takes)
    c.in-Ok-handle_ready.ensures.handles c.in-Ok-handle_ready.ensures.tells
    (released _ _ c.release.result r.value r.same r.frame r.failed r.reads) (λ lt. (lt, omega arith)) at

-- ---- where room is refused

rebuilt : (c : Connection) (z : Scan) → z ≡ c.scanner → ◌≡◌ {A = Connection} (record c { scanner = z }) c
rebuilt c z e = ap (λ (w : Scan). record c { scanner = w }) e

pub returns-in-Err-Memory-clause-waits : goal.returns-in-Err-Memory-clause-waits
returns-in-Err-Memory-clause-waits g c =
    let m = c.in-Err-Memory.ensures.memory (rw c.in-Err-Memory.field-0-is refl) in
    inl (record {
      fault_is = refl;
      same = rebuilt c.args.connection.now c.push.new.self c.in-Err-Memory.ensures.same;
      reading = m.0;
      grows = m.1;
    })

pub returns-in-Err-Memory-clause-taken : goal.returns-in-Err-Memory-clause-taken
returns-in-Err-Memory-clause-taken g c s handled at =
    let m = c.in-Err-Memory.ensures.memory (rw c.in-Err-Memory.field-0-is refl) in
    inl (record {
      fault_is = refl;
      same = rebuilt c.args.connection.now c.push.new.self c.in-Err-Memory.ensures.same;
      reading = m.0;
      grows = m.1;
    })

pub returns-in-Err-Memory-clause-cause : goal.returns-in-Err-Memory-clause-cause
returns-in-Err-Memory-clause-cause g c s handled at =
    let m = c.in-Err-Memory.ensures.memory (rw c.in-Err-Memory.field-0-is refl) in
    inl (record {
      fault_is = refl;
      same = rebuilt c.args.connection.now c.push.new.self c.in-Err-Memory.ensures.same;
      reading = m.0;
      grows = m.1;
    })

pub returns-in-Err-Memory-clause-moves : goal.returns-in-Err-Memory-clause-moves
returns-in-Err-Memory-clause-moves g c s handled at =
    let m = c.in-Err-Memory.ensures.memory (rw c.in-Err-Memory.field-0-is refl) in
    moved_none c.args.reading c.args.connection.now _ _ _ c.args.piece.now s handled
    (rebuilt c.args.connection.now c.push.new.self c.in-Err-Memory.ensures.same) m.0 m.2 refl at

pub returns-in-Err-Memory-clause-drops : goal.returns-in-Err-Memory-clause-drops
returns-in-Err-Memory-clause-drops g c s handled at =
    let m = c.in-Err-Memory.ensures.memory (rw c.in-Err-Memory.field-0-is refl) in
    moved_none c.args.reading c.args.connection.now _ _ _ c.args.piece.now s handled
    (rebuilt c.args.connection.now c.push.new.self c.in-Err-Memory.ensures.same) m.0 m.2 refl at

pub returns-in-Err-Memory-clause-hears : goal.returns-in-Err-Memory-clause-hears
returns-in-Err-Memory-clause-hears g c s handled at =
    let m = c.in-Err-Memory.ensures.memory (rw c.in-Err-Memory.field-0-is refl) in
    let kept = g.S.Store.entries c.args.store.now in
    hears_no_room (g.O.Observer.observes) c.args.reading c.args.connection.now _ kept kept c.args.piece.now s handled _ _
    (rebuilt c.args.connection.now c.push.new.self c.in-Err-Memory.ensures.same) m.0 m.2 refl refl at
