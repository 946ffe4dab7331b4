-- What a peer counts of its requests.
use Rattle.std.specs.Prelude.{◌≡◌}
use Rattle.site_pipe.specs.declared.peer.PipePeer.{PipePeer}

-- the counts of a peer stay
pub record KeepsCounts {R W : Type 0} (old new : PipePeer R W) : Type 0 where
  pub requests : new.requests ≡ old.requests
  pub put : new.put ≡ old.put
  pub kept : new.kept ≡ old.kept
