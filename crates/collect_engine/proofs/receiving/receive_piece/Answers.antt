use Rattle.std.proofs.Common.{List, [], ◌∷◌, take, sym, subst, ◌∙◌}
use Rattle.syslog_collect.specs.Headline.{IsSettled}
use Rattle.syslog_collect.specs.History.{Piece, history_of, stream_of}
use Rattle.syslog_collect.specs.Logs.{waiting}
use Rattle.syslog_collect.specs.Runs.{nonempty_piece}
use Rattle.syslog_collect.specs.declared.outcome.Outcome.{Outcome}
use Rattle.syslog_collect.proofs.Logging.{none_after_all}
use Rattle.collect_engine.specs.Receiving.{HearsReceived, IfNotMemory, ReceivesAs, kept_outcomes}
use Rattle.collect_engine.specs.declared.receiving.Received.{Received}
use Rattle.collect_engine.proofs.Receives.{hears_done, hears_stopped, nothing_said, piece_done, piece_settled}
use Rattle.collect_engine.proofs.Receives.{piece_stopped}
use Rattle.collect_engine.proofs.receiving.receive_piece.Goals as goal

pub returns-in-Done-clause-received : goal.returns-in-Done-clause-received
returns-in-Done-clause-received g c past first before was = (
  Piece c.args.conn c.args.octets.now ∷ [],
  c.in-Done.ensures.goes_on.stands past first before was,
  piece_done c.args.collector.now.reading (history_of before) (waiting c.args.collector.now.connections)
      (waiting c.observed_piece.new.self.connections) c.args.conn c.args.octets _ _ c.clear.new.self.items
      c.observed_piece.new.log.items (c.in-Done.ensures.logged past first before was) c.clear.ensures.items,
)

pub returns-in-Done-clause-settled : goal.returns-in-Done-clause-settled
returns-in-Done-clause-settled g c past first before was settled d =
    let (os, log, (logs, waits)) = c.in-Done.ensures.logged past first before was in
    waits d
    ∙ none_after_all (waiting c.args.collector.now.connections) (Piece c.args.conn c.args.octets.now ∷ []) settled d

pub returns-in-Done-clause-hears : goal.returns-in-Done-clause-hears
returns-in-Done-clause-hears g c past first before was =
    hears_done (g.O.Observer.observes) _ c.args.octets.now _ _ c.clear.new.self.items c.observed_piece.new.log.items _ _
    c.clear.ensures.items (c.in-Done.ensures.hears past first before was)

pub returns-in-Stopped-clause-received : goal.returns-in-Stopped-clause-received
returns-in-Stopped-clause-received g c past first before was =
    let here = c.in-Stopped in
    let as_made = subst (λ (r : Received). ReceivesAs c.args.collector.now.reading (history_of before)
    (waiting c.args.collector.now.connections) (waiting c.observed_piece.new.self.connections)
    (Piece c.args.conn c.args.octets.now) r (kept_outcomes here.fault c.observed_piece.new.log.items)
    (nonempty_piece c.args.conn (take here.taken c.args.octets.now))) (sym c.received_of.ensures)
    (piece_stopped c.args.collector.now.connections.limit c.args.collector.now.reading c.args.collector.now.connections
    (waiting c.observed_piece.new.self.connections) _ first before c.args.conn here.taken c.args.octets here.fault _ _
    c.clear.new.self.items c.observed_piece.new.log.items was here.ensures.within
    (here.ensures.cause past first before was) (here.ensures.logged past first before was) c.clear.ensures.items) in (
      nonempty_piece c.args.conn (take here.taken c.args.octets.now),
      here.ensures.goes_on.stands past first before was,
      subst (λ (os : List Outcome). ReceivesAs c.args.collector.now.reading (history_of before)
          (waiting c.args.collector.now.connections) (waiting c.observed_piece.new.self.connections)
          (Piece c.args.conn c.args.octets.now) c.received_of.result os
          (nonempty_piece c.args.conn (take here.taken c.args.octets.now))) (sym c.keep_outcomes.ensures) as_made,
    )

pub returns-in-Stopped-clause-settled : goal.returns-in-Stopped-clause-settled
returns-in-Stopped-clause-settled g c past first before was settled =
    let here = c.in-Stopped in
    subst (λ (r : Received). IfNotMemory r (IsSettled c.observed_piece.new.self.connections))
    (sym c.received_of.ensures)
    (piece_settled c.args.collector.now.connections.limit c.args.collector.now.reading
    c.args.collector.now.connections c.observed_piece.new.self.connections (history_of before) c.args.conn here.taken
    c.args.octets here.fault _ _ c.clear.new.self.items c.observed_piece.new.log.items settled here.ensures.within
    (here.ensures.cause past first before was) (here.ensures.logged past first before was))

pub returns-in-Stopped-clause-room : goal.returns-in-Stopped-clause-room
returns-in-Stopped-clause-room g c past first before was = nothing_said c.received_of.result

pub returns-in-Stopped-clause-hears : goal.returns-in-Stopped-clause-hears
returns-in-Stopped-clause-hears g c past first before was =
    let here = c.in-Stopped in
    subst (λ (os : List Outcome). HearsReceived (g.O.Observer.observes)
    (stream_of c.args.conn (history_of before).streams) c.args.octets.now
    (waiting c.args.collector.now.connections c.args.conn)
    (waiting c.observed_piece.new.self.connections c.args.conn) os c.args.observer.now c.observed_piece.new.observer)
    (sym c.keep_outcomes.ensures)
    (hears_stopped (g.O.Observer.observes) _ c.args.octets.now _ _ here.taken here.fault c.clear.new.self.items
    c.observed_piece.new.log.items _ _ c.clear.ensures.items (here.ensures.hears past first before was))
