use Rattle.std.proofs.Common.{true, false, refl, ap}
use Rattle.syslog_collect.specs.History.{Opened}
use Rattle.serve_engine.specs.Events.{loses_opening, manner_of}
use Rattle.serve_engine.proofs.Counted.{dropped_none, none_opened}
use Rattle.serve_engine.proofs.Turns.{accepted_none, accepted_own, lost_opening, never_memory}
use Rattle.serve_engine.proofs.Told.{turn_none, turn_of}
use Rattle.serve_engine.proofs.server.Server.opened.Goals as goal

pub returns-in-Accepted-clause-served : goal.returns-in-Accepted-clause-served
returns-in-Accepted-clause-served g c = (
  false,
  refl,
  λ k first before at none.
      let made = c.open.ensures.received k first before at in
      let quiet = c.open.ensures.settled none in (
        made.0,
        made.1,
        accepted_own (manner_of c.args.self.now.intake.collector) before (Opened c.args.conn c.args.framing) c.open.result _
            made.0 _ (_, _, none, never_memory c.open.result _ quiet, made.2, c.open.ensures.room k first before at)
            (ap loses_opening c.in-Accepted.is) refl,
        (
          c.count_connection.ensures.kept,
          rw c.in-Accepted.is (dropped_none _ _ c.count_connection.ensures.counts),
        ),
        quiet,
      ),
)

pub returns-in_default-clause-served : goal.returns-in_default-clause-served
returns-in_default-clause-served g c = (
  true,
  c.close.ensures,
  λ k first before at none.
      let made = c.open.ensures.received k first before at in
      let quiet = c.open.ensures.settled none in (
        made.0,
        made.1,
        accepted_none (manner_of c.args.self.now.intake.collector) before c.args.conn c.args.framing c.open.result _ made.0 _
            (_, _, none, never_memory c.open.result _ quiet, made.2, c.open.ensures.room k first before at)
            (lost_opening c.open.result c.in_default.not-Accepted) refl,
        (
          c.tell.ensures.kept,
          none_opened c.open.result _ _ c.in_default.not-Accepted c.tell.ensures.counts,
        ),
        quiet,
      ),
)

pub returns-in-Accepted-clause-notes : goal.returns-in-Accepted-clause-notes
returns-in-Accepted-clause-notes g c = turn_none _ _ c.count_connection.ensures.told

pub returns-in_default-clause-notes : goal.returns-in_default-clause-notes
returns-in_default-clause-notes g c = turn_of _ 1 _ _ c.tell.ensures.told
