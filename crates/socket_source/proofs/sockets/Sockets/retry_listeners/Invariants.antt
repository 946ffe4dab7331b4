use Rattle.std.proofs.Common.{◌≡◌}
use Rattle.socket_source.specs.Lines.{line}
use Rattle.socket_source.specs.Standings.{standing}
use Rattle.socket_source.specs.Waiting.{Keeps}
use Rattle.socket_source.proofs.sockets.Sockets.retry_listeners.Given as goal

-- what is open stays, and so does the order of those that wait
abbrev pub invariant-loop-listener : goal.invariant-loop-listener
invariant-loop-listener g l = record {
  standing : standing l.self ≡ standing l.fn.self;
  stays : l.self.held ≡ l.fn.self.held;
  round : l.self.round ≡ l.fn.self.round;
  early : l.self.early ≡ l.fn.self.early;
  order : Keeps (line l.fn.self) (line l.self);
}
