use Rattle.std.proofs.Common.{Some, None}
use Rattle.socket_source.specs.Lines.{line}
use Rattle.socket_source.specs.Standings.{standing}
use Rattle.socket_source.proofs.Runs.{passes_after, turns_at, turns_ended, turns_kept, turns_then}
use Rattle.socket_source.proofs.sockets.Sockets.turn.Goals as goal

pub returns-then-is_drained-clause-turns : goal.returns-then-is_drained-clause-turns
returns-then-is_drained-clause-turns g c =
    turns_kept _ (Some c.finish.result) (line c.args.self.now)
    (line c.finish.new.self) c.finish.ensures.order c.finish.ensures.unserved

pub returns-then-self-clause-turns : goal.returns-then-self-clause-turns
returns-then-self-clause-turns g c =
    turns_kept _ (Some c.tick_at_once.result) (line c.args.self.now)
    (line c.tick_at_once.new.self) c.tick_at_once.ensures.order
    c.tick_at_once.ensures.unserved

pub returns-then-ge-clause-turns : goal.returns-then-ge-clause-turns
returns-then-ge-clause-turns g c =
    turns_kept _ c.tick.result (line c.args.self.now) (line c.tick.new.self) c.tick.ensures.order
    c.tick.ensures.unserved

pub returns-in-Some-clause-turns : goal.returns-in-Some-clause-turns
returns-in-Some-clause-turns g c =
    turns_ended _ c.in-Some.step (line c.args.self.now) (line c.take_silent.new.self) c.in-Some.ensures.order
    c.in-Some.ensures.ends

pub returns-clause-turns : goal.returns-clause-turns
returns-clause-turns g c =
    turns_then (standing c.args.self.now).listeners c.take_ready.result (line c.args.self.now)
    (line c.take_silent.new.self) (line c.take_ready.new.self)
    (turns_kept (standing c.args.self.now).listeners None (line c.args.self.now)
    (line c.take_silent.new.self) c.in_default-take_silent.ensures.order tt)
    (turns_at (standing c.args.self.now) (standing c.take_silent.new.self) c.take_ready.result
    (line c.take_silent.new.self)
    (line c.take_ready.new.self) c.in_default-take_silent.ensures.lawful c.take_ready.ensures.turns)

pub returns-clause-passes : goal.returns-clause-passes
returns-clause-passes g c =
    passes_after c.args.self.now c.take_silent.new.self c.take_ready.new.self c.take_ready.result c.in_default-take_silent.ensures.order
    c.in_default-take_silent.ensures.round c.take_ready.ensures.serves c.take_ready.ensures.asks
