use Rattle.std.proofs.Common.{◌≡◌, None}
use Rattle.socket_source.specs.Lines.{line}
use Rattle.socket_source.specs.Runs.{HasTurns}
use Rattle.socket_source.specs.Standings.{standing}
use Rattle.socket_source.proofs.sockets.Sockets.next_step.Given as goal

-- no turn so far gave a step, so nothing changed but the queues
abbrev pub invariant-loop-turn : goal.invariant-loop-turn
invariant-loop-turn g l = record {
  still : standing l.self ≡ standing l.fn.self;
  turns : HasTurns (standing l.fn.self).listeners None (line l.fn.self) (line l.self);
}
