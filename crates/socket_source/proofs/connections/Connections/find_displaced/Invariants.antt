use Rattle.std.proofs.Common.{◌≡◌, ℕ, ◌<◌, ◌≤◌, true}
use Rattle.std.specs.Prelude.{IfSome}
use Rattle.socket_source.specs.Framings.{rank_in}
use Rattle.socket_source.specs.Sockets.{open_in}
use Rattle.socket_source.proofs.connections.Connections.find_displaced.Given as goal

-- the one that was found so far has an address that has most
abbrev pub invariant-loop-key : goal.invariant-loop-key
invariant-loop-key l = record {
  vacant_not : IfSome l.found (λ conn. open_in l.self.streams conn ≡ true);
  is : IfSome l.found (λ conn. rank_in l.self.peers l.self.streams conn ≡ l.highest.0);
  most : (n : ℕ) → n < l.key → rank_in l.self.peers l.self.streams n ≤ l.highest.0;
}
