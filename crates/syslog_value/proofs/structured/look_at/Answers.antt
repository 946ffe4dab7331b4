use Rattle.std.proofs.Common.{◌<◌, ◌≤◌, length, subst, arith}
use Rattle.std.specs.List.{All}
use Rattle.std.proofs.lemmas.List.{take_all}
use Rattle.std.proofs.lemmas.List.Elements.{All-more, recursion_from_All}
use Rattle.syslog_value.specs.Parts.{IsElement}
use Rattle.syslog_value.proofs.structured.look_at.Goals as goal

pub loop-element-preserved : goal.loop-element-preserved
loop-element-preserved c =
    let within : c.loop-element.element-index < length c.args.elements.now = omega arith in
    All-more IsElement _ _ c.element-item.result within c.loop-element.invariant
    (subst IsElement c.element-item.is c.id.ensures.valid)

pub returns : goal.returns
returns c =
    let whole : length c.args.elements.now ≤ c.loop-element.element-index = omega arith in
    recursion_from_All IsElement _ (subst (All IsElement) (take_all _ _ whole) c.loop-element.invariant)
