use Rattle.std.proofs.Common.{◌≡◌, ◌++◌, ◌-◌, ◌≤◌, drop, length}
use Rattle.std.specs.List.{AllByRecursion, flat_map}
use Rattle.syslog_value.specs.Parts.{IsElement}
use Rattle.c_library.specs.DataItems.{HasNoName, pairs, element_items}
use Rattle.c_library.proofs.items.elements_of.Given as goal

abbrev pub invariant-elements : goal.invariant-elements
invariant-elements l =
    (l.at ≤ length l.items) × AllByRecursion IsElement l.elements.items
    × (pairs l.items ≡ flat_map element_items l.elements.items ++ pairs (drop l.at l.items))
    × HasNoName l.elements.items (pairs (drop l.at l.items))

abbrev pub decreases-elements : goal.decreases-elements
decreases-elements l = length l.items - l.at
