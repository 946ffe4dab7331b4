use Rattle.std.proofs.Common.{◌++◌, take}
use Rattle.std.specs.Prelude.{codes}
use Rattle.std.specs.List.{flat_map}
use Rattle.octet_language.specs.Language.{Only}
use Rattle.syslog_fields.specs.Appending.{Adds}
use Rattle.frame_engine.specs.Showing.{line_of, param_lines}
use Rattle.frame_engine.proofs.record_lines.put_element.Given as goal

abbrev pub invariant-loop-param : goal.invariant-loop-param
invariant-loop-param l = Adds (Only (line_of (codes "element") l.element.id
    ++ flat_map param_lines (take l.param-index l.param-items))) l.fn.out.items l.out.items
