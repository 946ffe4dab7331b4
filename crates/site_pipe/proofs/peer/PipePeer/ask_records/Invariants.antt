use Rattle.std.proofs.Common.{◌-◌, vec_len}
use Rattle.site_pipe.specs.Counts.{KeepsCounts}
use Rattle.site_pipe.proofs.peer.PipePeer.ask_records.Given as goal

abbrev pub invariant-batches : goal.invariant-batches
invariant-batches g l = KeepsCounts l.fn.self l.self

abbrev pub decreases-batches : goal.decreases-batches
decreases-batches g l = vec_len l.asked - l.at
