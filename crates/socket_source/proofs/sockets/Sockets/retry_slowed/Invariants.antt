use Rattle.std.proofs.Common.{◌≡◌}
use Rattle.socket_source.specs.Lines.{line}
use Rattle.socket_source.specs.Standings.{standing}
use Rattle.socket_source.specs.Waiting.{Keeps}
use Rattle.socket_source.proofs.sockets.Sockets.retry_slowed.Given as goal

-- what is open stays, and so does the order of those that wait
abbrev pub invariant-loop-turn : goal.invariant-loop-turn
invariant-loop-turn g l = record {
  standing : standing l.self ≡ standing l.fn.self;
  stays : l.self.held ≡ l.fn.self.held;
  order : Keeps (line l.fn.self) (line l.self);
}
