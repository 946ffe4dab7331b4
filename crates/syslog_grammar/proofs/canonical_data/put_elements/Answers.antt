use Rattle.std.proofs.Common.{take}
use Rattle.std.specs.List.{flat_map}
use Rattle.octet_language.specs.Language.{Only}
use Rattle.syslog_fields.specs.Canonical.{structured_data_form, element_form}
use Rattle.syslog_fields.proofs.Appends.{puts_failed}
use Rattle.syslog_grammar.proofs.canonical_data.put_elements.Goals as goal

pub returns-in_err-put_element : goal.returns-in_err-put_element
returns-in_err-put_element c =
    puts_failed (Only (flat_map element_form (take c.loop-element.element-index c.args.elements.now)))
    (Only (structured_data_form c.args.elements.now))
    c.args.out.now.items c.loop-element.out.items c.put_element.new.out.items c.from_residual.result
    c.from_residual.ensures.0 c.loop-element.invariant c.in_err-put_element.ensures
