use Rattle.c_library.proofs.Itemizing.{name_refused, value_refused}
use Rattle.c_library.proofs.items.first_param.Goals as goal

pub returns-in_default-2 : goal.returns-in_default-2
returns-in_default-2 c =
    name_refused c.args.items.now _ c.in-len1-up.len_at_least c.if-name-ne-PART_PARAM_NAME.false
    (rw c.in_default-2.is at c.in_ok-key.ensures)

pub returns-in_default-3 : goal.returns-in_default-3
returns-in_default-3 c =
    let named = rw c.in-Some.is at c.in_ok-key.ensures in
    value_refused c.args.items.now _ c.in-len1-up.len_at_least c.if-name-ne-PART_PARAM_NAME.false named.0
    (rw c.in_default-3.is at c.in_ok-value.ensures)
