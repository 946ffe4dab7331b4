use Rattle.std.proofs.Common.{refl}
use Rattle.syslog_collect.specs.History.{Ended}
use Rattle.serve_engine.specs.Events.{manner_of}
use Rattle.serve_engine.proofs.Ending.{end_goes_on, if_refused}
use Rattle.serve_engine.proofs.Turns.{accepted_own, never_memory}
use Rattle.serve_engine.proofs.Told.{turn_of}
use Rattle.serve_engine.proofs.server.Server.ended.Goals as goal

pub returns-clause-served : goal.returns-clause-served
returns-clause-served g c k first before at none =
    let made = c.end-received.ensures.received k first before at in
    let quiet = c.end-received.ensures.settled k first before at none in (
      made.0,
      made.1,
      accepted_own (manner_of c.args.self.now.intake.collector) before (Ended c.args.conn) c.end-received.result _ made.0 _
          (_, _, none, never_memory c.end-received.result _ quiet, made.2, if_refused c.end-received.result _ tt) refl
          (end_goes_on c.end-received.result c.end-received.ensures.memory),
      (c.ended.ensures.kept, c.ended.ensures.counts),
      quiet,
    )

pub returns-clause-notes : goal.returns-clause-notes
returns-clause-notes g c = turn_of _ 2 _ _ c.ended.ensures.told
