use Rattle.std.proofs.Common.{◌<◌, ◌≤◌, length, subst, arith}
use Rattle.std.specs.List.{All}
use Rattle.std.proofs.lemmas.List.{take_all}
use Rattle.std.proofs.lemmas.List.Elements.{All-more, recursion_from_All}
use Rattle.syslog_value.specs.Parts.{IsParam}
use Rattle.syslog_value.proofs.element.look_at.Goals as goal

pub loop-param-preserved : goal.loop-param-preserved
loop-param-preserved c =
    let within : c.loop-param.param-index < length c.args.params.now = omega arith in
    All-more IsParam _ _ c.param-item.result within c.loop-param.invariant
    (subst IsParam c.param-item.is c.name.ensures.valid)

pub returns : goal.returns
returns c =
    let whole : length c.args.params.now ≤ c.loop-param.param-index = omega arith in
    recursion_from_All IsParam _ (subst (All IsParam) (take_all _ _ whole) c.loop-param.invariant)
