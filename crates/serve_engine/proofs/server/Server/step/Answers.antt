use Rattle.std.proofs.Common.{arith, false, inl, refl}
use Rattle.serve_engine.proofs.Turns.{serves_commit, serves_event, serves_nothing}
use Rattle.serve_engine.proofs.Told.{turn_none, turn_on}
use Rattle.serve_engine.proofs.server.Server.step.Goals as goal

pub returns-in-Opened-clause-served : goal.returns-in-Opened-clause-served
returns-in-Opened-clause-served g c = (
  c.opened.ensures.served.0,
  rw c.in-Opened.is c.opened.ensures.served.1,
  serves_event _ _ _ _ c.args.step _ _ _ _ _ _ _ (rw c.in-Opened.is refl) (rw c.in-Opened.is refl) c.opened.ensures.served.2,
)

pub returns-in-Piece-clause-served : goal.returns-in-Piece-clause-served
returns-in-Piece-clause-served g c = (
  c.piece.ensures.served.0,
  rw c.in-Piece.is c.piece.ensures.served.1,
  serves_event _ _ _ _ c.args.step _ _ _ _ _ _ _ (rw c.in-Piece.is refl) (rw c.in-Piece.is refl) c.piece.ensures.served.2,
)

pub returns-in-Ended-clause-served : goal.returns-in-Ended-clause-served
returns-in-Ended-clause-served g c = (
  false,
  rw c.in-Ended.is refl,
  serves_event _ _ _ _ c.args.step _ _ _ _ _ _ _ (rw c.in-Ended.is refl) (rw c.in-Ended.is refl) c.ended.ensures.served,
)

pub returns-in-Datagram-clause-served : goal.returns-in-Datagram-clause-served
returns-in-Datagram-clause-served g c = (
  false,
  rw c.in-Datagram.is refl,
  serves_event _ _ _ _ c.args.step _ _ _ _ _ _ _ (rw c.in-Datagram.is refl) (rw c.in-Datagram.is refl) c.datagram.ensures.served,
)

pub returns-in-TurnedAway-clause-served : goal.returns-in-TurnedAway-clause-served
returns-in-TurnedAway-clause-served g c = (
  false,
  rw c.in-TurnedAway.is refl,
  serves_nothing _ _ _ _ c.args.step _ _ _ _ _ (rw c.in-TurnedAway.is refl) (rw c.in-TurnedAway.is refl) c.turned_away.ensures.same c.turned_away.ensures.turn,
)

pub returns-in-NotAllowed-clause-served : goal.returns-in-NotAllowed-clause-served
returns-in-NotAllowed-clause-served g c = (
  false,
  rw c.in-NotAllowed.is refl,
  serves_nothing _ _ _ _ c.args.step _ _ _ _ _ (rw c.in-NotAllowed.is refl) (rw c.in-NotAllowed.is refl) c.not_allowed.ensures.same c.not_allowed.ensures.turn,
)

pub returns-in-OverRate-clause-served : goal.returns-in-OverRate-clause-served
returns-in-OverRate-clause-served g c = (
  false,
  rw c.in-OverRate.is refl,
  serves_nothing _ _ _ _ c.args.step _ _ _ _ _ (rw c.in-OverRate.is refl) (rw c.in-OverRate.is refl) c.over_rate.ensures.same c.over_rate.ensures.turn,
)

pub returns-in-InputEnded-clause-served : goal.returns-in-InputEnded-clause-served
returns-in-InputEnded-clause-served g c = (
  false,
  rw c.in-InputEnded.is refl,
  serves_nothing _ _ _ _ c.args.step _ _ _ _ _ (rw c.in-InputEnded.is refl) (rw c.in-InputEnded.is refl) refl refl,
)

pub returns-in-Tick-clause-served : goal.returns-in-Tick-clause-served
returns-in-Tick-clause-served g c = (
  false,
  rw c.in-Tick.is refl,
  serves_commit _ _ _ _ c.args.step _ _ _ _ _ (rw c.in-Tick.is refl) (rw c.in-Tick.is refl) c.tick.ensures.served
      c.tick.ensures.settled,
)

pub returns-in-Finished-clause-served : goal.returns-in-Finished-clause-served
returns-in-Finished-clause-served g c = (
  false,
  rw c.in-Finished.is refl,
  serves_commit _ _ _ _ c.args.step _ _ _ _ _ (rw c.in-Finished.is refl) (rw c.in-Finished.is refl) c.finish.ensures.served
      c.finish.ensures.settled,
)

pub returns-in-Failed-clause-served : goal.returns-in-Failed-clause-served
returns-in-Failed-clause-served g c = (
  false,
  rw c.in-Failed.is refl,
  serves_commit _ _ _ _ c.args.step _ _ _ _ _ (rw c.in-Failed.is refl) (rw c.in-Failed.is refl) c.finish-in-Failed.ensures.served
      c.finish-in-Failed.ensures.settled,
)

pub returns-in-Opened-clause-notes : goal.returns-in-Opened-clause-notes
returns-in-Opened-clause-notes g c k first before at = c.opened.ensures.notes

pub returns-in-Piece-clause-notes : goal.returns-in-Piece-clause-notes
returns-in-Piece-clause-notes g c k first before at = c.piece.ensures.notes k first before at

pub returns-in-Ended-clause-notes : goal.returns-in-Ended-clause-notes
returns-in-Ended-clause-notes g c k first before at = c.ended.ensures.notes

pub returns-in-Datagram-clause-notes : goal.returns-in-Datagram-clause-notes
returns-in-Datagram-clause-notes g c k first before at = c.datagram.ensures.notes

pub returns-in-TurnedAway-clause-notes : goal.returns-in-TurnedAway-clause-notes
returns-in-TurnedAway-clause-notes g c k first before at = c.turned_away.ensures.notes

pub returns-in-NotAllowed-clause-notes : goal.returns-in-NotAllowed-clause-notes
returns-in-NotAllowed-clause-notes g c k first before at = c.not_allowed.ensures.notes

pub returns-in-OverRate-clause-notes : goal.returns-in-OverRate-clause-notes
returns-in-OverRate-clause-notes g c k first before at = c.over_rate.ensures.notes

pub returns-in-InputEnded-clause-notes : goal.returns-in-InputEnded-clause-notes
returns-in-InputEnded-clause-notes g c k first before at = turn_none _ _ refl

pub returns-in-Tick-clause-notes : goal.returns-in-Tick-clause-notes
returns-in-Tick-clause-notes g c k first before at = turn_on 4 _ _ _
    (omega arith) c.tick.ensures.notes c.tick.ensures.pace

pub returns-in-Finished-clause-notes : goal.returns-in-Finished-clause-notes
returns-in-Finished-clause-notes g c k first before at = turn_on 2 0 _ _ (omega arith) c.finish.ensures.notes
    (inl c.finish.ensures.pace)

pub returns-in-Failed-clause-notes : goal.returns-in-Failed-clause-notes
returns-in-Failed-clause-notes g c k first before at = turn_on 2 0 _ _
    (omega arith) c.finish-in-Failed.ensures.notes (inl c.finish-in-Failed.ensures.pace)
