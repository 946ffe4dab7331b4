use Rattle.std.proofs.Common.{List, arith, inl, ap, ◌∙◌, refl, sym, subst}
use Rattle.syslog_collect.specs.History.{AcceptedEvent, history_of}
use Rattle.syslog_collect.specs.declared.event.Event.{Event}
use Rattle.syslog_collect.specs.declared.event.Event.TheVariants.{Opened, Ended}
use Rattle.syslog_collect.specs.declared.event.EventEnd.{EventEnd}
use Rattle.syslog_collect.specs.declared.outcome.Outcome.{Outcome}
use Rattle.syslog_collect.specs.declared.fault.CollectFault.TheVariants.{Memory}
use Rattle.syslog_collect.specs.Logs.{Grows, LogsDatagram, LogsEventEnd, LogsPiece, waiting}
use Rattle.syslog_collect.specs.Runs.{IfDone, accepted_by}
use Rattle.syslog_collect.specs.Collectors.{GoesOn}
use Rattle.syslog_collect.proofs.Between.{nothing_between}
use Rattle.syslog_collect.proofs.Logging.{datagram_logged, ended_logged, nothing_logged, opened_logged}
use Rattle.syslog_collect.proofs.Logging.{piece_event_logged}
use Rattle.syslog_collect.proofs.EventRuns.{accepted_nothing, datagram_accepted, ending_accepted, opening_accepted}
use Rattle.syslog_collect.proofs.EventRuns.{piece_accepted}
use Rattle.syslog_collect.proofs.Collecting.{stays}
use Rattle.syslog_collect.proofs.Found.{waits_keep}
use Rattle.syslog_collect.specs.Stops.{EndsWell, IfStopped, StopsAt}
use Rattle.syslog_collect.proofs.Stopping.{datagram_refused, done_any, ending_done, ending_refused, opening_refused}
use Rattle.syslog_collect.proofs.Stopping.{piece_event_refused}
use Rattle.syslog_collect.proofs.collector.Collector.run_event.Goals as goal

pub returns-then-is_err-clause-goes_on : goal.returns-then-is_err-clause-goes_on
returns-then-is_err-clause-goes_on g c =
    subst (λ (ts : List AcceptedEvent). GoesOn (g.S.Store.entries) c.args.self.now c.args.self.now ts)
    (sym (accepted_nothing c.args.event)) (stays (g.S.Store.entries) c.args.self.now)

pub returns-then-is_err-clause-logged : goal.returns-then-is_err-clause-logged
returns-then-is_err-clause-logged g c past first events was =
    nothing_logged c.args.self.now.reading (history_of events) (waiting c.args.self.now.connections) c.args.event
    (Memory 0) (g.S.Store.entries c.args.self.now.store) c.args.log.now.items c.reserve.new.self.items
    c.reserve.ensures.items

pub returns-in-Opened-clause-goes_on : goal.returns-in-Opened-clause-goes_on
returns-in-Opened-clause-goes_on g c =
    let accepted = opening_accepted c.in-Opened.conn c.in-Opened.framing c.open_conn.result
    ∙ ap (λ (r : EventEnd). accepted_by (Opened c.in-Opened.conn c.in-Opened.framing) r) (sym c.end_of.ensures) in
    subst (λ (e : Event). GoesOn (g.S.Store.entries) c.args.self.now c.open_conn.new.self
    (accepted_by e c.end_of.result)) (sym c.in-Opened.is)
    (subst (λ (ts : List AcceptedEvent). GoesOn (g.S.Store.entries) c.args.self.now c.open_conn.new.self ts) accepted
    c.open_conn.ensures.goes_on)

pub returns-in-Piece-clause-goes_on : goal.returns-in-Piece-clause-goes_on
returns-in-Piece-clause-goes_on g c =
    let accepted = piece_accepted c.in-Piece.conn c.in-Piece.octets c.piece.result in
    subst (λ (e : Event). GoesOn (g.S.Store.entries) c.args.self.now c.piece.new.self
    (accepted_by e c.piece.result)) (sym c.in-Piece.is)
    (subst (λ (ts : List AcceptedEvent). GoesOn (g.S.Store.entries) c.args.self.now c.piece.new.self ts) accepted
    c.piece.ensures.goes_on)

pub returns-in-Ended-clause-goes_on : goal.returns-in-Ended-clause-goes_on
returns-in-Ended-clause-goes_on g c =
    let accepted = ending_accepted c.in-Ended.conn c.end_conn.result
    ∙ ap (λ (r : EventEnd). accepted_by (Ended c.in-Ended.conn) r) (sym c.end_of-in-Ended.ensures) in
    subst (λ (e : Event). GoesOn (g.S.Store.entries) c.args.self.now c.end_conn.new.self
    (accepted_by e c.end_of-in-Ended.result)) (sym c.in-Ended.is)
    (subst (λ (ts : List AcceptedEvent). GoesOn (g.S.Store.entries) c.args.self.now c.end_conn.new.self ts) accepted
    c.end_conn.ensures.goes_on)

pub returns-in-Datagram-clause-goes_on : goal.returns-in-Datagram-clause-goes_on
returns-in-Datagram-clause-goes_on g c =
    let accepted = datagram_accepted c.in-Datagram.octets c.logged_datagram.result in
    subst (λ (e : Event). GoesOn (g.S.Store.entries) c.args.self.now c.logged_datagram.new.self
    (accepted_by e c.logged_datagram.result)) (sym c.in-Datagram.is)
    (subst (λ (ts : List AcceptedEvent). GoesOn (g.S.Store.entries) c.args.self.now c.logged_datagram.new.self ts) accepted
    c.logged_datagram.ensures.goes_on)

pub returns-in-Opened-clause-logged : goal.returns-in-Opened-clause-logged
returns-in-Opened-clause-logged g c past first events was =
    let h = history_of events in
    let w = waiting c.args.self.now.connections in
    let v = waiting c.open_conn.new.self.connections in
    let a = g.S.Store.entries c.args.self.now.store in
    let b = g.S.Store.entries c.open_conn.new.self.store in
    subst (λ (e : Event). Grows (LogsEventEnd c.args.self.now.reading h w v e c.end_of.result a b) c.args.log.now.items
    c.reserve.new.self.items) (sym c.in-Opened.is)
    (opened_logged c.args.self.now.reading h w v c.in-Opened.conn c.in-Opened.framing c.end_of.result a b
    c.args.log.now.items c.reserve.new.self.items c.reserve.ensures.items
    (ap (g.S.Store.entries) c.open_conn.ensures.store) c.open_conn.ensures.waits)

pub returns-in-Piece-clause-logged : goal.returns-in-Piece-clause-logged
returns-in-Piece-clause-logged g c past first events was =
    let h = history_of events in
    let w = waiting c.args.self.now.connections in
    let v = waiting c.piece.new.self.connections in
    let a = g.S.Store.entries c.args.self.now.store in
    let b = g.S.Store.entries c.piece.new.self.store in
    subst (λ (e : Event). Grows (LogsEventEnd c.args.self.now.reading h w v e c.piece.result a b) c.args.log.now.items
    c.piece.new.log.items) (sym c.in-Piece.is)
    (piece_event_logged c.args.self.now.reading h w v c.in-Piece.conn c.in-Piece.octets c.piece.result a b
    c.args.log.now.items c.piece.new.log.items
    (subst (λ (l : List Outcome). Grows (LogsPiece c.args.self.now.reading h w v c.in-Piece.conn c.in-Piece.octets.now
    c.piece.result a b) l c.piece.new.log.items) c.reserve.ensures.items (c.piece.ensures.logged past first events was)))

pub returns-in-Ended-clause-logged : goal.returns-in-Ended-clause-logged
returns-in-Ended-clause-logged g c past first events was =
    let h = history_of events in
    let w = waiting c.args.self.now.connections in
    let v = waiting c.end_conn.new.self.connections in
    let a = g.S.Store.entries c.args.self.now.store in
    let b = g.S.Store.entries c.end_conn.new.self.store in
    subst (λ (e : Event). Grows (LogsEventEnd c.args.self.now.reading h w v e c.end_of-in-Ended.result a b)
    c.args.log.now.items c.reserve.new.self.items) (sym c.in-Ended.is)
    (ended_logged c.args.self.now.reading h w v c.in-Ended.conn c.end_of-in-Ended.result a b c.args.log.now.items
    c.reserve.new.self.items c.reserve.ensures.items (ap (g.S.Store.entries) c.end_conn.ensures.store)
    (c.end_conn.ensures.waits past first events was))

pub returns-in-Datagram-clause-logged : goal.returns-in-Datagram-clause-logged
returns-in-Datagram-clause-logged g c past first events was =
    let h = history_of events in
    let w = waiting c.args.self.now.connections in
    let v = waiting c.logged_datagram.new.self.connections in
    let a = g.S.Store.entries c.args.self.now.store in
    let b = g.S.Store.entries c.logged_datagram.new.self.store in
    subst (λ (e : Event). Grows (LogsEventEnd c.args.self.now.reading h w v e c.logged_datagram.result a b)
    c.args.log.now.items c.logged_datagram.new.log.items) (sym c.in-Datagram.is)
    (datagram_logged c.args.self.now.reading h w v c.in-Datagram.octets c.logged_datagram.result a b
    c.args.log.now.items
    c.logged_datagram.new.log.items
    (waits_keep c.args.self.now.connections _ c.logged_datagram.ensures.connections)
    (subst (λ (l : List Outcome). Grows (LogsDatagram c.args.self.now.reading c.in-Datagram.octets.now
    c.logged_datagram.result a b) l c.logged_datagram.new.log.items) c.reserve.ensures.items
    c.logged_datagram.ensures.logged))

pub returns-then-is_err-clause-cause : goal.returns-then-is_err-clause-cause
returns-then-is_err-clause-cause g c past first events was =
    (omega arith, inl (refl, nothing_between (history_of events) _ c.args.event))

pub returns-in-Opened-clause-cause : goal.returns-in-Opened-clause-cause
returns-in-Opened-clause-cause g c past first events was =
    let h = history_of events in
    let w = waiting c.open_conn.new.self.connections in
    subst (λ (e : Event). IfStopped c.end_of.result (StopsAt c.args.self.now.connections.limit c.args.self.now.reading h w e)) (sym c.in-Opened.is)
    (subst (λ (r : EventEnd). IfStopped r (StopsAt c.args.self.now.connections.limit c.args.self.now.reading h w
    (Opened c.in-Opened.conn c.in-Opened.framing))) (sym c.end_of.ensures)
    (opening_refused c.args.self.now.connections.limit c.args.self.now.reading h w c.in-Opened.conn c.in-Opened.framing c.open_conn.result
    (c.open_conn.ensures.cause past first events was)))

pub returns-in-Piece-clause-cause : goal.returns-in-Piece-clause-cause
returns-in-Piece-clause-cause g c past first events was =
    let h = history_of events in
    let w = waiting c.piece.new.self.connections in
    subst (λ (e : Event). IfStopped c.piece.result (StopsAt c.args.self.now.connections.limit c.args.self.now.reading h w e)) (sym c.in-Piece.is)
    (piece_event_refused c.args.self.now.connections.limit c.args.self.now.reading h w c.in-Piece.conn c.in-Piece.octets c.piece.result
    c.piece.ensures.within (c.piece.ensures.cause past first events was))

pub returns-in-Ended-clause-cause : goal.returns-in-Ended-clause-cause
returns-in-Ended-clause-cause g c past first events was =
    let h = history_of events in
    let w = waiting c.args.self.now.connections in
    let v = waiting c.end_conn.new.self.connections in
    subst (λ (e : Event). IfStopped c.end_of-in-Ended.result (StopsAt c.args.self.now.connections.limit c.args.self.now.reading h v e))
    (sym c.in-Ended.is)
    (subst (λ (r : EventEnd). IfStopped r (StopsAt c.args.self.now.connections.limit c.args.self.now.reading h v (Ended c.in-Ended.conn)))
    (sym c.end_of-in-Ended.ensures)
    (ending_refused c.args.self.now.connections.limit c.args.self.now.reading h w v c.in-Ended.conn c.end_conn.result
    (c.end_conn.ensures.cause past first events was) (c.end_conn.ensures.ready past first events was)
    (c.end_conn.ensures.waits past first events was c.in-Ended.conn)))

pub returns-in-Datagram-clause-cause : goal.returns-in-Datagram-clause-cause
returns-in-Datagram-clause-cause g c past first events was =
    let h = history_of events in
    let w = waiting c.logged_datagram.new.self.connections in
    subst (λ (e : Event). IfStopped c.logged_datagram.result (StopsAt c.args.self.now.connections.limit c.args.self.now.reading h w e))
    (sym c.in-Datagram.is)
    (datagram_refused c.args.self.now.connections.limit c.args.self.now.reading h w c.in-Datagram.octets c.logged_datagram.result
    c.logged_datagram.ensures.cause)

pub returns-in-Opened-clause-ends : goal.returns-in-Opened-clause-ends
returns-in-Opened-clause-ends g c past first events was =
    subst (λ (e : Event). IfDone c.end_of.result (EndsWell (history_of events) e)) (sym c.in-Opened.is)
    (done_any c.end_of.result)

pub returns-in-Piece-clause-ends : goal.returns-in-Piece-clause-ends
returns-in-Piece-clause-ends g c past first events was =
    subst (λ (e : Event). IfDone c.piece.result (EndsWell (history_of events) e)) (sym c.in-Piece.is)
    (done_any c.piece.result)

pub returns-in-Ended-clause-ends : goal.returns-in-Ended-clause-ends
returns-in-Ended-clause-ends g c past first events was =
    let h = history_of events in
    subst (λ (e : Event). IfDone c.end_of-in-Ended.result (EndsWell h e)) (sym c.in-Ended.is)
    (subst (λ (r : EventEnd). IfDone r (EndsWell h (Ended c.in-Ended.conn))) (sym c.end_of-in-Ended.ensures)
    (ending_done h c.in-Ended.conn c.end_conn.result (c.end_conn.ensures.cause past first events was)))

pub returns-in-Datagram-clause-ends : goal.returns-in-Datagram-clause-ends
returns-in-Datagram-clause-ends g c past first events was =
    subst (λ (e : Event). IfDone c.logged_datagram.result (EndsWell (history_of events) e)) (sym c.in-Datagram.is)
    (done_any c.logged_datagram.result)
