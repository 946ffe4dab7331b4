use Rattle.std.proofs.Common.{take}
use Rattle.std.specs.List.{All}
use Rattle.syslog_value.specs.Parts.{IsElement}
use Rattle.syslog_value.proofs.structured.look_at.Given as goal

abbrev pub invariant-loop-element : goal.invariant-loop-element
invariant-loop-element l = All IsElement (take l.element-index l.elements)
