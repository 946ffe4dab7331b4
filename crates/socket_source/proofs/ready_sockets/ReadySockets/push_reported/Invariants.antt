use Rattle.std.proofs.Common.{◌≡◌}
use Rattle.socket_source.specs.Lines.{line_of}
use Rattle.socket_source.specs.Waiting.{Keeps}
use Rattle.socket_source.proofs.ready_sockets.ReadySockets.push_reported.Given as goal

-- those that were in the queues still are, in their order
abbrev pub invariant-loop-event : goal.invariant-loop-event
invariant-loop-event l = record {
  keeps : Keeps (line_of l.fn.self) (line_of l.self);
  kinds : l.self.kinds ≡ l.fn.self.kinds;
}
