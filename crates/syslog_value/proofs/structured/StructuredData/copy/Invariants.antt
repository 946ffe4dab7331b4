use Rattle.std.proofs.Common.{◌≡◌, take}
use Rattle.syslog_value.proofs.structured.StructuredData.copy.Given as goal

abbrev pub invariant-loop-element : goal.invariant-loop-element
invariant-loop-element l = l.elements.items ≡ take l.element-index l.element-items
