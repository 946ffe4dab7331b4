use Rattle.std.proofs.Common.{◌≡◌, ℕ, ◌<◌, ◌≤◌, length}
use Rattle.std.specs.Prelude.{slice_index}
use Rattle.server_metrics.specs.Times.{bounds, counted}
use Rattle.server_metrics.proofs.commit_times.CommitTimes.count_bounds.Given as goal

-- the time was counted at the bounds so far, and nothing else was changed
abbrev pub invariant-loop-i : goal.invariant-loop-i
invariant-loop-i l = record {
  below : (k : ℕ) → k < l.i → slice_index l.self.within k
      ≡ counted l.micros (slice_index bounds k) (slice_index l.fn.self.within k);
  above : (k : ℕ) → l.i ≤ k → k < length bounds → slice_index l.self.within k ≡ slice_index l.fn.self.within k;
  count : l.self.count ≡ l.fn.self.count;
  sum : l.self.sum ≡ l.fn.self.sum;
}
