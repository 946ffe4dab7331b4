use Rattle.c_library.proofs.Itemizing.{value_first}
use Rattle.c_library.proofs.items.first_value.Goals as goal

pub returns-in_ok-from_str-in-Ok : goal.returns-in_ok-from_str-in-Ok
returns-in_ok-from_str-in-Ok c =
    value_first c.args.items.now _ c.in-Ok.text.now _ c.in-len1-up.len_at_least c.if-value-ne-PART_PARAM_VALUE.false
    c.in-Ok.ensures.0 c.in_ok-from_str-in-Ok.ensures.ok
