use Rattle.std.proofs.Common.{subst, List, ◌∷◌, ◌++◌, []}
use Rattle.std.specs.List.{flat_map}
use Rattle.octet_language.specs.Language.{Only}
use Rattle.syslog_value.specs.Parts.{ParamParts}
use Rattle.syslog_fields.specs.Appending.{Puts}
use Rattle.syslog_fields.specs.Canonical.{param_form}
use Rattle.syslog_fields.proofs.Appends.{items_end}
use Rattle.syslog_grammar.proofs.canonical_data.put_element.Goals as goal

pub returns : goal.returns
returns c =
    subst (λ (ps : List ParamParts). Puts (Only (91 ∷ c.args.element.now.id ++ flat_map param_form ps ++ 93 ∷ []))
    c.args.out.now.items c.put-3.new.out.items c.put-3.result)
    c.params-param-items.ensures
    (items_end param_form c.params-param-items.result.now c.loop-param.param-index (91 ∷ c.args.element.now.id)
    (93 ∷ []) c.args.out.now.items c.loop-param.out.items c.put-3.new.out.items c.put-3.result
    c.loop-param-test.false c.loop-param.invariant c.put-3.ensures)
