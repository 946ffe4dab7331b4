use Rattle.std.proofs.Common.{◌≡◌, ◌++◌, ◌+◌, ◌≤◌, List, drop, length, subst, sym, ◌∙◌}
use Rattle.std.specs.List.{AllByRecursion, flat_map}
use Rattle.syslog_value.specs.Parts.{IsParam, ParamParts}
use Rattle.c_library.specs.DataItems.{TakesParam, pairs, param_items}
use Rattle.c_library.specs.declared.items.SyslogboxItem.{SyslogboxItem}
use Rattle.c_library.proofs.Itemizing.{lent, params_more, pushed}
use Rattle.c_library.proofs.items.params_of.Goals as goal

pub params-preserved : goal.params-preserved
params-preserved c =
    let items = c.args.items.now in
    let at = c.params.at in
    let next =
    subst (λ (xs : List SyslogboxItem). TakesParam (pairs xs) c.in-Some.param) (lent items at)
    (rw c.in-Some.is at c.in_ok-param.ensures) in
    let more =
    params_more items at c.params.params.items c.in-Some.param c.params.invariant.0 c.params.invariant.1
    c.params.invariant.2 next in
    let new = pushed c.push.result _ _ c.in-Some.param c.push.ensures.items (sym c.is_err.ensures.value ∙ c.if-is_err.false) in
    subst (λ (ps : List ParamParts). (at + 2 ≤ length items) × AllByRecursion IsParam ps
    × (pairs items ≡ flat_map param_items ps ++ pairs (drop (at + 2) items)))
    (sym new) more
