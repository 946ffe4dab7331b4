use Rattle.std.proofs.Common.{◌≤◌, ◌++◌, List, ℕ, take}
use Rattle.syslog_frame.specs.Count.{IsCount}
use Rattle.syslog_frame.specs.declared.limits.TheConstants.{COUNT_MAX}
use Rattle.syslog_frame.proofs.count.count_on.Given as goal

abbrev pub invariant-loop-i : goal.invariant-loop-i
invariant-loop-i l = record {
  small : l.count ≤ COUNT_MAX;
  digits : (p : List ℕ) → IsCount l.start p
      → IsCount l.count (p ++ take l.i l.octets);
}
