use Rattle.std.proofs.Common.{◌≢◌, ◌≤◌, ◌<◌, ℕ, length}
use Rattle.std.specs.Prelude.{slice_index}
use Rattle.ledger_disk.proofs.tail.lines_end.Given as goal

abbrev pub invariant-behind : goal.invariant-behind
invariant-behind l = record {
  within : l.end ≤ length l.octets;
  behind : (i : ℕ) → l.end ≤ i → i < length l.octets → slice_index l.octets i ≢ 10;
}

abbrev pub decreases-behind : goal.decreases-behind
decreases-behind l = l.end
