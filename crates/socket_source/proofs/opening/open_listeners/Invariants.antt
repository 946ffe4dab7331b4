use Rattle.std.proofs.Common.{◌≡◌, vec_len}
use Rattle.socket_source.proofs.opening.open_listeners.Given as goal

-- one socket for each listener so far
abbrev pub invariant-loop-listener : goal.invariant-loop-listener
invariant-loop-listener g l = vec_len l.all ≡ l.listener
