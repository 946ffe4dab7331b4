use Rattle.std.proofs.Common.{◌≡◌, ℕ, ◌<◌, List, [], ◌∷◌, ◌++◌, length, get_or, take, sym, subst, arith}
use Rattle.syslog_frame.specs.declared.framing.Framing.TheVariants.{Counted}
use Rattle.syslog_collect.specs.declared.event.Event.TheVariants.{Opened}
use Rattle.syslog_collect.specs.History.{AcceptedEvent, History, history_of, initial}
use Rattle.syslog_collect.specs.declared.event.EventEnd.TheVariants.{Done as end_Done, Stopped as end_Stopped}
use Rattle.syslog_collect.specs.Logs.{Grows, IsLogOf, LogsEventEnd, waiting, waiting_after_all}
use Rattle.syslog_legacy.specs.declared.frame_reading.FrameReading.{FrameReading}
use Rattle.syslog_collect.specs.Runs.{accepted_all, accepted_event, accepted_part}
use Rattle.syslog_collect.specs.Collectors.{GoesOn}
use Rattle.syslog_collect.proofs.Collecting.{goes_on_then, stays}
use Rattle.syslog_collect.proofs.Logging.{grows_none, grows_push, history_after-append, log_waits, run_stopped}
use Rattle.syslog_collect.proofs.EventRuns.{accepted_all-next, accepted_all-whole, accepted_first-here}
use Rattle.syslog_collect.specs.Stops.{EndsWell, StopsAt}
use Rattle.syslog_collect.proofs.Stopping.{end_well-next, end_well-whole, first_stops}
use Rattle.syslog_collect.proofs.collector.Collector.run.Goals as goal

pub returns-in-Stopped-clause-goes_on : goal.returns-in-Stopped-clause-goes_on
returns-in-Stopped-clause-goes_on g c =
    let es = c.args.events.now in
    let n = c.loop-at.at in
    let here : n < length es = omega arith in
    subst (λ (ts : List AcceptedEvent). GoesOn (g.S.Store.entries) c.args.self.now c.run_event.new.self
    (accepted_all (take n es) ++ ts))
    (sym (accepted_first-here es n c.in-Stopped.taken c.in-Stopped.fault (Opened 0 Counted) here))
    (goes_on_then (g.S.Store.entries) c.args.self.now c.loop-at.self c.run_event.new.self (accepted_all (take n es))
    (accepted_part (get_or es n (Opened 0 Counted)) c.in-Stopped.taken c.in-Stopped.fault)
    c.loop-at.invariant.goes_on c.in-Stopped.ensures.goes_on)

pub returns-in-Stopped-clause-logged : goal.returns-in-Stopped-clause-logged
returns-in-Stopped-clause-logged g c past first before was =
    let es = c.args.events.now in
    let n = c.loop-at.at in
    let here : n < length es = omega arith in
    let so_far = accepted_all (take n es) in
    let a = g.S.Store.entries c.args.self.now.store in
    let b = g.S.Store.entries c.loop-at.self.store in
    let d = g.S.Store.entries c.run_event.new.self.store in
    let u = waiting c.loop-at.self.connections in
    let v = waiting c.run_event.new.self.connections in
    run_stopped c.args.self.now.reading (history_of before) (waiting c.args.self.now.connections) u v es n
    c.in-Stopped.taken c.in-Stopped.fault (Opened 0 Counted) a b d c.args.log.now.items c.loop-at.log.items
    c.run_event.new.log.items
    here (c.loop-at.invariant.log past first before was)
    (subst (λ (h : History). Grows (LogsEventEnd c.args.self.now.reading h u v (get_or es n (Opened 0 Counted))
    (end_Stopped c.in-Stopped.taken c.in-Stopped.fault) b d) c.loop-at.log.items c.run_event.new.log.items)
    (history_after-append initial before so_far)
    (subst (λ (k : FrameReading). Grows (LogsEventEnd k (history_of (before ++ so_far)) u v (get_or es n
    (Opened 0 Counted))
    (end_Stopped c.in-Stopped.taken c.in-Stopped.fault) b d) c.loop-at.log.items c.run_event.new.log.items)
    c.loop-at.invariant.goes_on.reading (c.in-Stopped.ensures.logged past first (before ++ so_far)
    (c.loop-at.invariant.goes_on.stands past first before was))))

pub loop-at-init : goal.loop-at-init
loop-at-init g c = record {
  goes_on = stays (g.S.Store.entries) c.args.self.now;
  log = λ past first before was. grows_none c.args.self.now.reading (history_of before) _ _ _;
  ends = λ past first before was. tt;
}

pub loop-at-preserved : goal.loop-at-preserved
loop-at-preserved g c = record {
  goes_on =
      let es = c.args.events.now in
      let n = c.loop-at.at in
      let here : n < length es = omega arith in
      subst (λ (ts : List AcceptedEvent). GoesOn (g.S.Store.entries) c.args.self.now c.run_event.new.self ts)
      (sym (accepted_all-next es n (Opened 0 Counted) here))
      (goes_on_then (g.S.Store.entries) c.args.self.now c.loop-at.self c.run_event.new.self (accepted_all (take n es))
      (accepted_event (get_or es n (Opened 0 Counted)) ∷ []) c.loop-at.invariant.goes_on c.in_default.ensures.goes_on);
  log = λ past first before was.
      let es = c.args.events.now in
      let n = c.loop-at.at in
      let here : n < length es = omega arith in
      let so_far = accepted_all (take n es) in
      let a = g.S.Store.entries c.args.self.now.store in
      let b = g.S.Store.entries c.loop-at.self.store in
      let d = g.S.Store.entries c.run_event.new.self.store in
      let e = get_or es n (Opened 0 Counted) in
      let w = waiting c.args.self.now.connections in
      let u = waiting c.loop-at.self.connections in
      let v = waiting c.run_event.new.self.connections in
      subst (λ (ts : List AcceptedEvent). Grows (IsLogOf c.args.self.now.reading (history_of before) w ts v a d)
      c.args.log.now.items c.run_event.new.log.items) (sym (accepted_all-next es n (Opened 0 Counted) here))
      (grows_push c.args.self.now.reading (history_of before) w so_far e u v a b d c.args.log.now.items
      c.loop-at.log.items c.run_event.new.log.items (c.loop-at.invariant.log past first before was)
      (subst (λ (h : History). Grows (LogsEventEnd c.args.self.now.reading h u v e end_Done b d) c.loop-at.log.items
      c.run_event.new.log.items) (history_after-append initial before so_far)
      (subst (λ (k : FrameReading). Grows (LogsEventEnd k (history_of (before ++ so_far)) u v e end_Done b d)
      c.loop-at.log.items c.run_event.new.log.items) c.loop-at.invariant.goes_on.reading
      (c.in_default.ensures.logged past first (before ++ so_far) (c.loop-at.invariant.goes_on.stands past first before was)))));
  ends = λ past first before was.
      let es = c.args.events.now in
      let n = c.loop-at.at in
      let here : n < length es = omega arith in
      let so_far = accepted_all (take n es) in
      let e = get_or es n (Opened 0 Counted) in
      end_well-next (history_of before) es n (Opened 0 Counted) here (c.loop-at.invariant.ends past first before was)
      (subst (λ (h : History). EndsWell h e) (history_after-append initial before so_far)
      (c.in_default.ensures.ends past first (before ++ so_far) (c.loop-at.invariant.goes_on.stands past first before was)));
}

pub returns-clause-goes_on : goal.returns-clause-goes_on
returns-clause-goes_on g c =
    subst (λ (ts : List AcceptedEvent). GoesOn (g.S.Store.entries) c.args.self.now c.loop-at.self ts)
    (accepted_all-whole c.args.events.now c.loop-at.at (omega arith)) c.loop-at.invariant.goes_on

pub returns-clause-waits : goal.returns-clause-waits
returns-clause-waits g c past first before was d =
    let w = waiting c.args.self.now.connections in
    let v = waiting c.loop-at.self.connections in
    let so_far = accepted_all (take c.loop-at.at c.args.events.now) in
    let (os, grown, logs) = c.loop-at.invariant.log past first before was in
    subst (λ (ts : List AcceptedEvent). v d ≡ waiting_after_all w ts d)
    (accepted_all-whole c.args.events.now c.loop-at.at (omega arith))
    (log_waits c.args.self.now.reading (history_of before) w v so_far _ _ os logs d)

pub returns-clause-logged : goal.returns-clause-logged
returns-clause-logged g c past first before was =
    subst (λ (ts : List AcceptedEvent). Grows
    (IsLogOf c.args.self.now.reading (history_of before) (waiting c.args.self.now.connections) ts
    (waiting c.loop-at.self.connections)
    (g.S.Store.entries c.args.self.now.store) (g.S.Store.entries c.loop-at.self.store)) c.args.log.now.items
    c.loop-at.log.items)
    (accepted_all-whole c.args.events.now c.loop-at.at (omega arith)) (c.loop-at.invariant.log past first before was)

pub returns-in-Stopped-clause-cause : goal.returns-in-Stopped-clause-cause
returns-in-Stopped-clause-cause g c past first before was =
    let es = c.args.events.now in
    let n = c.loop-at.at in
    let here : n < length es = omega arith in
    let so_far = accepted_all (take n es) in
    let w = waiting c.run_event.new.self.connections in
    let stops = c.in-Stopped.ensures.cause past first (before ++ so_far) (c.loop-at.invariant.goes_on.stands past first before was) in (
      here,
      first_stops c.args.self.now.connections.limit c.args.self.now.reading _ w es n c.in-Stopped.taken c.in-Stopped.fault (Opened 0 Counted) here
          (subst (λ (h : History). StopsAt c.args.self.now.connections.limit c.args.self.now.reading h w (get_or es n
          (Opened 0 Counted)) c.in-Stopped.taken
          c.in-Stopped.fault) (history_after-append initial before so_far)
          (subst (λ (k : FrameReading). StopsAt c.args.self.now.connections.limit k (history_of (before ++ so_far)) w
          (get_or es n (Opened 0 Counted)) c.in-Stopped.taken c.in-Stopped.fault) c.loop-at.invariant.goes_on.reading
          (subst (λ (m : ℕ). StopsAt m c.loop-at.self.reading (history_of (before ++ so_far)) w
          (get_or es n (Opened 0 Counted)) c.in-Stopped.taken c.in-Stopped.fault) c.loop-at.invariant.goes_on.limit
          stops))),
    )

pub returns-clause-ends : goal.returns-clause-ends
returns-clause-ends g c past first before was =
    end_well-whole (history_of before) c.args.events.now c.loop-at.at (omega arith)
    (c.loop-at.invariant.ends past first before was)

pub returns-in-Stopped-clause-ends : goal.returns-in-Stopped-clause-ends
returns-in-Stopped-clause-ends g c past first before was = c.loop-at.invariant.ends past first before was
