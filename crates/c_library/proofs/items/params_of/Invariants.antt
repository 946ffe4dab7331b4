use Rattle.std.proofs.Common.{◌≡◌, ◌++◌, ◌-◌, ◌≤◌, drop, length}
use Rattle.std.specs.List.{AllByRecursion, flat_map}
use Rattle.syslog_value.specs.Parts.{IsParam}
use Rattle.c_library.specs.DataItems.{pairs, param_items}
use Rattle.c_library.proofs.items.params_of.Given as goal

abbrev pub invariant-params : goal.invariant-params
invariant-params l =
    (l.at ≤ length l.items) × AllByRecursion IsParam l.params.items
    × (pairs l.items ≡ flat_map param_items l.params.items ++ pairs (drop l.at l.items))

abbrev pub decreases-params : goal.decreases-params
decreases-params l = length l.items - l.at
