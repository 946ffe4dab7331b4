use Rattle.std.proofs.Common.{inl, inr}
use Rattle.syslog_collect.specs.Headline.{IsSettled}
use Rattle.syslog_collect.specs.History.{history_of}
use Rattle.syslog_collect.specs.Logs.{waiting}
use Rattle.collect_engine.proofs.Serves.{stopped_as, stopped_fails, stopped_settled}
use Rattle.collect_engine.proofs.serving.serve.Goals as goal
use Rattle.collect_engine.specs.declared.serve_end.Stopped.TheVariants as stopped

pub returns-in-Ok-clause-served : goal.returns-in-Ok-clause-served
returns-in-Ok-clause-served g c first before was =
    let made = c.in-Ok.ensures.served first before was in
    (made.0, made.1, made.2, made.3, made.4, made.5, (made.6, c.in-Ok.ensures.failures))

pub returns-in-Err-Step-clause-served : goal.returns-in-Err-Step-clause-served
returns-in-Err-Step-clause-served g c first before was =
    let here = c.in-Err-Step in
    let made = here.ensures.served first before was in (
      made.0,
      made.1,
      made.2,
      made.3,
      made.4,
      made.5,
      inl (
        stopped_as c.args.collector.now.reading (history_of before) (waiting c.args.collector.now.connections)
            (waiting c.serve_steps.new.collector.connections) here.field-0 stopped.Step made.0 made.1
            made.2 here.field-0-is made.6,
        stopped_fails here.field-0 stopped.Step _ _ here.field-0-is here.ensures.failures,
      ),
    )

pub returns-in-Err-Step-clause-settled : goal.returns-in-Err-Step-clause-settled
returns-in-Err-Step-clause-settled g c first before was settled =
    stopped_settled c.in-Err-Step.field-0 stopped.Step (IsSettled c.serve_steps.new.collector.connections)
    c.in-Err-Step.field-0-is (c.in-Err-Step.ensures.settled first before was settled)

pub returns-in-Err-Notes-clause-served : goal.returns-in-Err-Notes-clause-served
returns-in-Err-Notes-clause-served g c first before was =
    let here = c.in-Err-Notes in
    let made = here.ensures.served first before was in (
      made.0,
      made.1,
      made.2,
      made.3,
      made.4,
      made.5,
      inr (
        stopped_as c.args.collector.now.reading (history_of before) (waiting c.args.collector.now.connections)
            (waiting c.serve_steps.new.collector.connections) here.field-0 stopped.Notes made.0 made.1
            made.2 here.field-0-is made.6,
        stopped_fails here.field-0 stopped.Notes _ _ here.field-0-is here.ensures.failures,
      ),
    )

pub returns-in-Err-Notes-clause-settled : goal.returns-in-Err-Notes-clause-settled
returns-in-Err-Notes-clause-settled g c first before was settled =
    stopped_settled c.in-Err-Notes.field-0 stopped.Notes (IsSettled c.serve_steps.new.collector.connections)
    c.in-Err-Notes.field-0-is (c.in-Err-Notes.ensures.settled first before was settled)

pub returns-in-Err-Endless-clause-served : goal.returns-in-Err-Endless-clause-served
returns-in-Err-Endless-clause-served g c first before was =
    let here = c.in-Err-Endless in
    let made = here.ensures.served first before was in (
      made.0,
      made.1,
      made.2,
      made.3,
      made.4,
      made.5,
      (
        stopped_as c.args.collector.now.reading (history_of before) (waiting c.args.collector.now.connections)
            (waiting c.serve_steps.new.collector.connections) here.field-0 stopped.Endless made.0 made.1
            made.2 here.field-0-is made.6,
        stopped_fails here.field-0 stopped.Endless _ _ here.field-0-is here.ensures.failures,
      ),
    )

pub returns-in-Err-Endless-clause-settled : goal.returns-in-Err-Endless-clause-settled
returns-in-Err-Endless-clause-settled g c first before was settled =
    stopped_settled c.in-Err-Endless.field-0 stopped.Endless (IsSettled c.serve_steps.new.collector.connections)
    c.in-Err-Endless.field-0-is (c.in-Err-Endless.ensures.settled first before was settled)

pub returns-in-Err-Memory-clause-served : goal.returns-in-Err-Memory-clause-served
returns-in-Err-Memory-clause-served g c first before was =
    let here = c.in-Err-Memory in
    let made = here.ensures.served first before was in (
      made.0,
      made.1,
      made.2,
      made.3,
      made.4,
      made.5,
      inl (
        stopped_as c.args.collector.now.reading (history_of before) (waiting c.args.collector.now.connections)
            (waiting c.serve_steps.new.collector.connections) here.field-0 stopped.Memory made.0 made.1
            made.2 here.field-0-is made.6,
        stopped_fails here.field-0 stopped.Memory _ _ here.field-0-is here.ensures.failures,
      ),
    )

pub returns-in-Err-MemoryAndNotes-clause-served : goal.returns-in-Err-MemoryAndNotes-clause-served
returns-in-Err-MemoryAndNotes-clause-served g c first before was =
    let here = c.in-Err-MemoryAndNotes in
    let made = here.ensures.served first before was in (
      made.0,
      made.1,
      made.2,
      made.3,
      made.4,
      made.5,
      inr (
        stopped_as c.args.collector.now.reading (history_of before) (waiting c.args.collector.now.connections)
            (waiting c.serve_steps.new.collector.connections) here.field-0 stopped.MemoryAndNotes made.0 made.1
            made.2 here.field-0-is made.6,
        stopped_fails here.field-0 stopped.MemoryAndNotes _ _ here.field-0-is here.ensures.failures,
      ),
    )
