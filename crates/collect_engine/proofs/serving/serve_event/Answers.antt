use Rattle.std.proofs.Common.{[], refl, subst}
use Rattle.syslog_collect.specs.History.{history_of}
use Rattle.syslog_collect.specs.Logs.{waiting}
use Rattle.syslog_collect.specs.Headline.{IsSettled}
use Rattle.syslog_collect.specs.Runs.{accepted_event}
use Rattle.collect_engine.specs.Lines.{NotesAs, lines_on}
use Rattle.collect_engine.specs.declared.receiving.Received.{Received}
use Rattle.collect_engine.proofs.Serves.{appends_none, event_served, going, out_of_memory_fails, out_of_memory_served}
use Rattle.collect_engine.proofs.Serves.{out_of_memory_settled, refused_told, still_settled, unless_memory}
use Rattle.collect_engine.proofs.serving.serve_event.Goals as goal

pub returns-in-Refused-clause-served : goal.returns-in-Refused-clause-served
returns-in-Refused-clause-served g c first before was =
    let made = c.in-Refused.ensures.received [] first before was in
    (made.0, [], made.1, appends_none (g.N.Output.state c.args.notes.now).taken, (made.2.0, refl, made.2.2), tt)

pub returns-in-Memory-clause-served : goal.returns-in-Memory-clause-served
returns-in-Memory-clause-served g c first before was =
    let made = c.in-Memory.ensures.received [] first before was in
    let noted = c.write-noted.ensures.noted in
    let r = c.receive-received.result in
    let n = c.args.lines.now.number in
    let os = c.receive-received.new.outcomes.items in
    let v = waiting c.receive-received.new.collector.connections in
    let e = accepted_event c.args.event in
    let lines =
    subst (λ (k : Received). NotesAs c.write-noted.result (lines_on n os k) noted.0) c.in-Memory.is noted.2 in (
      made.0,
      noted.0,
      made.1,
      noted.1,
      out_of_memory_served c.args.collector.now.reading (history_of before)
          (waiting c.args.collector.now.connections) v n c.write-noted.new.self.number e os made.0 noted.0
          c.write-noted.result c.out_of_memory.result c.out_of_memory.ensures made.2 lines,
      tt,
    )

pub returns-in-Memory-clause-settled : goal.returns-in-Memory-clause-settled
returns-in-Memory-clause-settled g c first before was settled =
    out_of_memory_settled c.write-noted.result c.out_of_memory.result _ c.out_of_memory.ensures

pub returns-in-Memory-clause-failures : goal.returns-in-Memory-clause-failures
returns-in-Memory-clause-failures g c =
    out_of_memory_fails c.write-noted.result c.out_of_memory.result _ _ c.out_of_memory.ensures
    c.write-noted.ensures.failures

pub returns-in-Accepted-clause-served : goal.returns-in-Accepted-clause-served
returns-in-Accepted-clause-served g c first before was =
    let made = c.receive-received.ensures.received [] first before was in
    let noted = c.write.ensures.noted in
    let n = c.args.lines.now.number in
    let r = c.receive-received.result in
    let os = c.receive-received.new.outcomes.items in (
      made.0,
      noted.0,
      made.1,
      noted.1,
      event_served c.args.collector.now.reading (history_of before) (waiting c.args.collector.now.connections)
          (waiting c.receive-received.new.collector.connections) n c.write.new.self.number
          (accepted_event c.args.event) r os made.0 noted.0 c.write.result (going r c.in-Accepted.is) made.2 noted.2
          c.write.ensures.number,
      refused_told c.write.result (lines_on n os r) noted.0 c.write.new.self.refused c.args.lines.now.refused noted.2
          c.write.ensures.refused,
    )

pub returns-in-Accepted-clause-settled : goal.returns-in-Accepted-clause-settled
returns-in-Accepted-clause-settled g c first before was settled =
    let r = c.receive-received.result in
    let now = IsSettled c.receive-received.new.collector.connections in
    unless_memory c.write.result now
    (still_settled r now (going r c.in-Accepted.is) (c.receive-received.ensures.settled [] first before was settled))

pub returns-in-Refused-clause-settled : goal.returns-in-Refused-clause-settled
returns-in-Refused-clause-settled g c first before was settled = c.in-Refused.ensures.settled [] first before was settled
