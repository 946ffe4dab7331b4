use Rattle.std.proofs.Common.{◌-◌, length}
use Rattle.std.specs.List.Sorted.{IsPermutation}
use Rattle.syslog_reading.specs.IdKeys.{offsets}
use Rattle.syslog_reading.proofs.id_keys.+sort_keys.Given as goal

abbrev pub decreases-sort_keys : goal.decreases-sort_keys
decreases-sort_keys l = 28 - l.depth

abbrev pub invariant-loop-start : goal.invariant-loop-start
invariant-loop-start l = IsPermutation (offsets l.fn.keys) (offsets l.keys)

abbrev pub decreases-loop-start : goal.decreases-loop-start
decreases-loop-start l = length l.keys - l.start
