use Rattle.serve_engine.proofs.intake.Intake.receive_piece.Goals as goal

pub returns-clause-received : goal.returns-clause-received
returns-clause-received g c k first before at =
    let made = c.receive_piece.ensures.received k.held first before at.collector in
    (made.0, record { keeper = at.keeper; within = at.within; collector = made.1 }, made.2)

pub returns-clause-settled : goal.returns-clause-settled
returns-clause-settled g c k first before at none = c.receive_piece.ensures.settled k.held first before at.collector none

pub returns-clause-room : goal.returns-clause-room
returns-clause-room g c k first before at = c.receive_piece.ensures.room k.held first before at.collector

pub returns-clause-hears : goal.returns-clause-hears
returns-clause-hears g c k first before at = c.receive_piece.ensures.hears k.held first before at.collector
