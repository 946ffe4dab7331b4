use Rattle.std.proofs.Common.{List, [], ◌∷◌, sym, subst, ◌∙◌}
use Rattle.syslog_collect.specs.Headline.{IsSettled}
use Rattle.syslog_collect.specs.History.{history_of}
use Rattle.syslog_collect.specs.Logs.{waiting}
use Rattle.syslog_collect.specs.Runs.{accepted_event, accepted_run}
use Rattle.syslog_collect.specs.declared.event.RunEnd.TheVariants.{Stopped}
use Rattle.syslog_collect.specs.declared.outcome.Outcome.{Outcome}
use Rattle.syslog_collect.proofs.Logging.{none_after_all}
use Rattle.collect_engine.specs.Receiving.{IfNotMemory, ReceivesAs, kept_outcomes}
use Rattle.collect_engine.specs.declared.receiving.Received.{Received}
use Rattle.collect_engine.proofs.Receives.{done_as, refused_at, refused_settled, stopped_as}
use Rattle.collect_engine.proofs.receiving.receive.Goals as goal

pub returns-in-Done-clause-received : goal.returns-in-Done-clause-received
returns-in-Done-clause-received g c past first before was = (
  accepted_event c.args.event ∷ [],
  c.in-Done.ensures.goes_on.stands past first before was,
  done_as c.args.collector.now.reading (history_of before) (waiting c.args.collector.now.connections)
      (waiting c.run.new.self.connections) c.args.event _ _ c.run.new.log.items c.clear.new.self.items
      (c.in-Done.ensures.logged past first before was) c.clear.ensures.items (c.in-Done.ensures.ends past first before was).0,
)

pub returns-in-Done-clause-settled : goal.returns-in-Done-clause-settled
returns-in-Done-clause-settled g c past first before was settled d =
    c.in-Done.ensures.waits past first before was d
    ∙ none_after_all (waiting c.args.collector.now.connections) (accepted_event c.args.event ∷ []) settled d

pub returns-in-Stopped-clause-received : goal.returns-in-Stopped-clause-received
returns-in-Stopped-clause-received g c past first before was =
    let here = c.in-Stopped in
    let made = stopped_as c.args.collector.now.connections.limit c.args.collector.now.reading c.args.collector.now.connections
    (waiting c.run.new.self.connections) _ first before c.args.event here.at here.taken here.fault _ _
    c.clear.new.self.items c.run.new.log.items here.ensures.many was (here.ensures.cause past first before was)
    (here.ensures.logged past first before was) c.clear.ensures.items in
    let as_made = subst (λ (r : Received). ReceivesAs c.args.collector.now.reading (history_of before)
    (waiting c.args.collector.now.connections) (waiting c.run.new.self.connections)
    (accepted_event c.args.event) r (kept_outcomes here.fault c.run.new.log.items)
    (accepted_run (c.args.event ∷ []) (Stopped here.at here.taken here.fault)))
    (sym c.received_of.ensures) made in (
      accepted_run (c.args.event ∷ []) (Stopped here.at here.taken here.fault),
      here.ensures.goes_on.stands past first before was,
      subst (λ (os : List Outcome). ReceivesAs c.args.collector.now.reading (history_of before)
          (waiting c.args.collector.now.connections) (waiting c.run.new.self.connections)
          (accepted_event c.args.event) c.received_of.result os
          (accepted_run (c.args.event ∷ []) (Stopped here.at here.taken here.fault)))
          (sym c.keep_outcomes.ensures) as_made,
    )

pub returns-in-Stopped-clause-settled : goal.returns-in-Stopped-clause-settled
returns-in-Stopped-clause-settled g c past first before was settled =
    let here = c.in-Stopped in
    subst (λ (r : Received). IfNotMemory r (IsSettled c.run.new.self.connections)) (sym c.received_of.ensures)
    (refused_settled c.args.collector.now.connections.limit c.args.collector.now.reading c.args.collector.now.connections
    c.run.new.self.connections (history_of before) c.args.event here.at here.taken here.fault _ _
    c.clear.new.self.items c.run.new.log.items settled (here.ensures.cause past first before was)
    (here.ensures.logged past first before was))

pub returns-in-Stopped-clause-room : goal.returns-in-Stopped-clause-room
returns-in-Stopped-clause-room g c past first before was =
    let here = c.in-Stopped in
    refused_at c.args.collector.now.connections.limit c.args.collector.now.reading (history_of before)
    (waiting c.run.new.self.connections) c.args.event here.at here.taken here.fault c.received_of.result
    c.received_of.ensures (here.ensures.cause past first before was)
