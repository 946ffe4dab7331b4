use Rattle.std.proofs.Common.{◌≡◌, take}
use Rattle.std.specs.Prelude.{map}
use Rattle.socket_source.specs.Kinds.{is_datagrams}
use Rattle.socket_source.proofs.ready_sockets.kinds_of.Given as goal

-- the kinds of those so far
abbrev pub invariant-loop-bound : goal.invariant-loop-bound
invariant-loop-bound l = l.kinds.items ≡ map is_datagrams (take l.bound-index l.listeners)
