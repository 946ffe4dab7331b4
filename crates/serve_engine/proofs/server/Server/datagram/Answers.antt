use Rattle.std.proofs.Common.{List, refl, subst}
use Rattle.octet_devices.specs.Device.{OutputState}
use Rattle.syslog_collect.specs.History.{Datagram}
use Rattle.syslog_collect.specs.declared.outcome.Outcome.{Outcome}
use Rattle.syslog_collect.specs.History.{history_of}
use Rattle.serve_engine.specs.Events.{manner_of}
use Rattle.serve_engine.specs.Refusals.{KeepsEach, kept_in}
use Rattle.serve_engine.specs.declared.counts.ServeCounts.{ServeCounts}
use Rattle.serve_engine.proofs.Refused.{kept_at}
use Rattle.serve_engine.proofs.Turns.{accepted_own, quiet_datagram}
use Rattle.serve_engine.proofs.Told.{of_behind, of_then, turn_of}
use Rattle.serve_engine.proofs.server.Server.datagram.Goals as goal

pub returns-clause-served : goal.returns-clause-served
returns-clause-served g c k first before at none =
    let made = c.receive-received.ensures.received k first before at in
    let quiet = c.receive-received.ensures.settled k first before at none in (
      made.0,
      made.1,
      accepted_own (manner_of c.args.self.now.intake.collector) before (Datagram c.args.octets.now)
          c.receive-received.result c.receive-received.new.self.outcomes.items made.0 _
          (_, _, none, quiet, made.2, c.receive-received.ensures.room k first before at) refl refl,
      (
        kept_in (g.R.Output.state) c.outcomes.new.self,
        subst (λ (u : OutputState × ServeCounts). KeepsEach c.args.octets.now c.receive-received.new.self.outcomes.items u
            (kept_in (g.R.Output.state) c.outcomes.new.self))
            (kept_at (g.R.Output.state) c.count_octets.new.self c.args.self.now.report c.args.octets.now
            c.count_octets.ensures.refused c.count_octets.ensures.counts)
            (subst (λ (os : List Outcome). KeepsEach c.args.octets.now os
            (kept_in (g.R.Output.state) c.count_octets.new.self)
            (kept_in (g.R.Output.state) c.outcomes.new.self)) c.as_slice.ensures.value c.outcomes.ensures.kept),
        c.datagram.ensures.kept,
      ),
      quiet_datagram _ (history_of before) _ _ _ c.receive-received.result _ _ none quiet made.2,
    )

pub returns-clause-notes : goal.returns-clause-notes
returns-clause-notes g c =
    turn_of _ _ _ _
    (of_then _ _ 1 _ _ _ (of_behind _ _ _ _ _ c.count_octets.ensures.told c.outcomes.ensures.told)
    c.datagram.ensures.told)
