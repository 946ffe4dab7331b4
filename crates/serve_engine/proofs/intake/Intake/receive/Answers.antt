use Rattle.serve_engine.proofs.intake.Intake.receive.Goals as goal

pub returns-clause-received : goal.returns-clause-received
returns-clause-received g c k first before at =
    let made = c.receive.ensures.received k.held first before at.collector in
    (made.0, record { keeper = at.keeper; within = at.within; collector = made.1 }, made.2)

pub returns-clause-settled : goal.returns-clause-settled
returns-clause-settled g c k first before at none = c.receive.ensures.settled k.held first before at.collector none

pub returns-clause-room : goal.returns-clause-room
returns-clause-room g c k first before at = c.receive.ensures.room k.held first before at.collector
