use Rattle.std.proofs.Common.{◌++◌, ◌∷◌, take}
use Rattle.std.specs.List.{flat_map}
use Rattle.octet_language.specs.Language.{Only}
use Rattle.syslog_fields.specs.Appending.{Adds}
use Rattle.syslog_fields.specs.Canonical.{param_form}
use Rattle.syslog_grammar.proofs.canonical_data.put_element.Given as goal

abbrev pub invariant-loop-param : goal.invariant-loop-param
invariant-loop-param l = Adds (Only (91 ∷ l.element.id ++ flat_map param_form (take l.param-index l.param-items)))
    l.fn.out.items l.out.items
