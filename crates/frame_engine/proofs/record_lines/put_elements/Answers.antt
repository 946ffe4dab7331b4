use Rattle.std.proofs.Common.{take}
use Rattle.std.specs.List.{flat_map}
use Rattle.octet_language.specs.Language.{Only}
use Rattle.frame_engine.specs.Showing.{element_lines}
use Rattle.syslog_fields.proofs.Appends.{puts_failed}
use Rattle.frame_engine.proofs.record_lines.put_elements.Goals as goal

pub returns-in_err-put_element : goal.returns-in_err-put_element
returns-in_err-put_element c =
    puts_failed (Only (flat_map element_lines (take c.loop-element.element-index c.args.elements.now)))
    (Only (flat_map element_lines c.args.elements.now))
    c.args.out.now.items c.loop-element.out.items c.put_element.new.out.items c.from_residual.result
    c.from_residual.ensures.0 c.loop-element.invariant c.in_err-put_element.ensures
