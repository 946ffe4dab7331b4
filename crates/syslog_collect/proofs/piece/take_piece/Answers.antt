use Rattle.std.proofs.Common.{◌+◌, ◌-◌, ◌∙◌, drop, inl, length, refl, take, arith}
use Rattle.syslog_collect.proofs.Hearing.{hears_nothing, hears_on}
use Rattle.syslog_collect.proofs.Pieces.{logs_nothing, logs_of, logs_on, logs_on_advance, measure_falls, taken_all}
use Rattle.syslog_collect.proofs.Pieces.{taken_on, within_rest}
use Rattle.syslog_collect.proofs.Stopping.{piece_between, piece_goes_on, piece_stops, within_taken}
use Rattle.syslog_collect.proofs.Waiting.{ready_none}
use Rattle.syslog_collect.specs.Logs.{ready_count}
use Rattle.syslog_collect.proofs.piece.take_piece.Goals as goal

pub returns-in-Stopped-clause-moves : goal.returns-in-Stopped-clause-moves
returns-in-Stopped-clause-moves g c s d at =
    let p = c.args.piece.now in
    let n = c.pieces.taken in
    let m = c.in-Stopped.used in
    logs_on c.args.reading c.args.connection.now c.pieces.connection c.take_step.new.connection
    (g.S.Store.entries c.args.store.now) (g.S.Store.entries c.pieces.store)
    (g.S.Store.entries c.take_step.new.store)
    (take n p) (take m (take (length p - n) (drop n p))) (take (n + m) p) c.args.log.now.items c.pieces.log.items
    c.take_step.new.log.items s d (taken_on p n m) at
    (c.pieces.invariant.so_far s d at) c.in-Stopped.ensures.moves

pub returns-in-Ended-clause-accepted : goal.returns-in-Ended-clause-accepted
returns-in-Ended-clause-accepted g c s d at =
    let p = c.args.piece.now in
    let n = c.pieces.taken in
    logs_on_advance c.args.reading c.args.connection.now c.pieces.connection c.take_step.new.connection
    (g.S.Store.entries c.args.store.now) (g.S.Store.entries c.pieces.store)
    (g.S.Store.entries c.take_step.new.store)
    (take n p) (take (length p - n) (drop n p)) p c.args.log.now.items c.pieces.log.items c.take_step.new.log.items s d
    (taken_all p n) at
    (c.pieces.invariant.so_far s d at) c.in-Ended.ensures.accepted

pub returns-in-Ended-clause-moves : goal.returns-in-Ended-clause-moves
returns-in-Ended-clause-moves g c s d at =
    logs_of c.args.reading _ _ _ _ _ _ _ s d (returns-in-Ended-clause-accepted g c s d at)

pub pieces-init : goal.pieces-init
pieces-init g c = record {
  within = omega arith;
  number = refl;
  reserved = refl;
  so_far = λ s d at. logs_nothing c.args.reading _ _ _ _ s d refl;
  heard = λ s d at. hears_nothing (g.O.Observer.observes) _ _ _ s d _ _ refl refl at;
  goes_on = λ s d at. inl refl;
  between = λ s d at. inl refl;
}

pub pieces-preserved : goal.pieces-preserved
pieces-preserved g c =
    let p = c.args.piece.now in
    let n = c.pieces.taken in
    let m = c.in-On.used in
    record {
      within = omega (arith, within_rest p n m c.pieces.invariant.within c.in-On.ensures.within);
      number = c.in-On.ensures.number ∙ c.pieces.invariant.number;
      reserved = c.in-On.ensures.reserved ∙ c.pieces.invariant.reserved;
      so_far = λ s d at.
          logs_on c.args.reading c.args.connection.now c.pieces.connection c.take_step.new.connection
          (g.S.Store.entries c.args.store.now) (g.S.Store.entries c.pieces.store)
          (g.S.Store.entries c.take_step.new.store)
          (take n p) (take m (take (length p - n) (drop n p))) (take (n + m) p) c.args.log.now.items c.pieces.log.items
          c.take_step.new.log.items s d (taken_on p n m) at
          (c.pieces.invariant.so_far s d at) c.in-On.ensures.moves;
      heard = λ s d at.
          hears_on (g.O.Observer.observes) c.pieces.connection c.take_step.new.connection (take n p)
          (take m (take (length p - n) (drop n p))) (take (n + m) p) c.args.log.now.items c.pieces.log.items
          c.take_step.new.log.items s d _ _ _ (taken_on p n m) (c.pieces.invariant.heard s d at)
          c.in-On.ensures.hears;
      goes_on = λ s d at.
          piece_goes_on c.args.reading c.args.connection.now c.pieces.connection (g.S.Store.entries c.args.store.now)
          (g.S.Store.entries c.pieces.store) p n m c.args.log.now.items c.pieces.log.items s d
          c.pieces.invariant.within at (c.pieces.invariant.so_far s d at) (c.pieces.invariant.goes_on s d at)
          c.in-On.ensures.goes_on;
      between = λ s d at.
          piece_between c.args.reading c.args.connection.now c.pieces.connection (g.S.Store.entries c.args.store.now)
          (g.S.Store.entries c.pieces.store) p n m c.args.log.now.items c.pieces.log.items s d
          (ready_count c.take_step.new.connection.scanner.phase)
          (ready_none c.take_step.new.connection.scanner.phase (λ frame. c.in-On.ensures.settled (inl frame)))
          at (c.pieces.invariant.so_far s d at) c.in-On.ensures.whole;
    }

pub pieces-smaller : goal.pieces-smaller
pieces-smaller g c =
    measure_falls c.pieces.connection.scanner.phase c.take_step.new.connection.scanner.phase (length c.args.piece.now)
    c.pieces.taken c.in-On.used c.in-On.ensures.settled c.in-On.ensures.progress
    (within_rest c.args.piece.now c.pieces.taken c.in-On.used c.pieces.invariant.within c.in-On.ensures.within)

pub returns-in-Stopped-clause-within : goal.returns-in-Stopped-clause-within
returns-in-Stopped-clause-within g c = within_taken c.args.piece.now c.pieces.taken c.in-Stopped.used
    c.pieces.invariant.within c.in-Stopped.ensures.within

pub returns-in-Stopped-clause-cause : goal.returns-in-Stopped-clause-cause
returns-in-Stopped-clause-cause g c s d at =
    piece_stops c.args.reading c.args.connection.now c.pieces.connection (g.S.Store.entries c.args.store.now)
    (g.S.Store.entries c.pieces.store) c.args.piece.now c.pieces.taken c.in-Stopped.used
    (ready_count c.pieces.connection.scanner.phase) (ready_count c.take_step.new.connection.scanner.phase)
    c.in-Stopped.fault c.args.log.now.items c.pieces.log.items s d c.pieces.invariant.within
    c.in-Stopped.ensures.within at (c.pieces.invariant.so_far s d at) (c.pieces.invariant.goes_on s d at)
    (c.pieces.invariant.between s d at) c.in-Stopped.ensures.cause

pub returns-in-Stopped-clause-hears : goal.returns-in-Stopped-clause-hears
returns-in-Stopped-clause-hears g c s d at =
    let p = c.args.piece.now in
    let n = c.pieces.taken in
    let m = c.in-Stopped.used in
    hears_on (g.O.Observer.observes) c.pieces.connection c.take_step.new.connection (take n p)
    (take m (take (length p - n) (drop n p))) (take (n + m) p) c.args.log.now.items c.pieces.log.items
    c.take_step.new.log.items s d _ _ _ (taken_on p n m) (c.pieces.invariant.heard s d at) c.in-Stopped.ensures.hears

pub returns-in-Ended-clause-hears : goal.returns-in-Ended-clause-hears
returns-in-Ended-clause-hears g c s d at =
    let p = c.args.piece.now in
    let n = c.pieces.taken in
    hears_on (g.O.Observer.observes) c.pieces.connection c.take_step.new.connection (take n p)
    (take (length p - n) (drop n p)) p c.args.log.now.items c.pieces.log.items c.take_step.new.log.items s d _ _ _
    (taken_all p n) (c.pieces.invariant.heard s d at) c.in-Ended.ensures.hears
