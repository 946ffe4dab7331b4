use Rattle.std.proofs.Common.{◌≡◌, ◌≤◌, ◌<◌, ◌⊎◌, take, Contains}
use Rattle.syslog_reading.specs.IdKeys.{RepeatFrom, offsets}
use Rattle.syslog_reading.proofs.Sorted.{UpTo}
use Rattle.syslog_reading.proofs.distinct.first_met.Given as goal

abbrev pub invariant-loop-i : goal.invariant-loop-i
invariant-loop-i l = record {
  within : l.at ≤ l.reach;
  met : RepeatFrom l.elements l.at (offsets (take l.i l.keys));
  one : (l.at ≡ l.reach) ⊎ ((l.at ≡ 0) ⊎ Contains (offsets l.keys) l.at);
  most : 0 < l.at → UpTo l.elements (offsets (take l.i l.keys)) l.last;
}
