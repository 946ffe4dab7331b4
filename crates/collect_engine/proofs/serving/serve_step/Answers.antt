use Rattle.syslog_collect.specs.Runs.{accepted_event}
use Rattle.collect_engine.proofs.serving.serve_step.Goals as goal

pub returns-clause-served : goal.returns-clause-served
returns-clause-served g c first before was =
    let made = c.serve_event.ensures.served first before was in
    let event = c.event_of_step-event in
    (accepted_event event.result, made.0, made.1, event.ensures, made.2, made.3, made.4, made.5)
