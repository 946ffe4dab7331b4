use Rattle.std.proofs.Common.{take}
use Rattle.std.specs.List.{flat_map}
use Rattle.octet_language.specs.Language.{Only}
use Rattle.syslog_fields.specs.Appending.{Adds}
use Rattle.frame_engine.specs.Showing.{element_lines}
use Rattle.frame_engine.proofs.record_lines.put_elements.Given as goal

abbrev pub invariant-loop-element : goal.invariant-loop-element
invariant-loop-element l = Adds (Only (flat_map element_lines (take l.element-index l.elements))) l.fn.out.items
    l.out.items
