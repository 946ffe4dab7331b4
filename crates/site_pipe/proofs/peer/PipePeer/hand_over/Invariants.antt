use Rattle.std.proofs.Common.{◌≡◌, ◌+◌, length}
use Rattle.site_pipe.proofs.peer.PipePeer.hand_over.Given as goal

abbrev pub invariant-batches : goal.invariant-batches
invariant-batches g l = record {
  kept : l.self.kept + length l.rest ≡ l.fn.self.kept + length l.entries;
  requests : l.self.requests ≡ l.fn.self.requests;
  put : l.self.put ≡ l.fn.self.put;
}

abbrev pub decreases-batches : goal.decreases-batches
decreases-batches g l = length l.rest
