use Rattle.std.proofs.Common.{◌∙◌, arith}
use Rattle.option_values.proofs.TimeLemmas.{found_exists, found_more, found_nil, found_nothing, found_whole}
use Rattle.option_values.proofs.time_values.spaced_instant.Goals as goal

pub instant_at-requires : goal.instant_at-requires
instant_at-requires c =
    let arm = c.in-Ok-Some-empty in
    found_exists c.args.octets.now arm.field-0-1.now arm.field-0-0 arm.time arm.ensures arm.field-0-0-is

pub returns-in-Ok-Some-empty : goal.returns-in-Ok-Some-empty
returns-in-Ok-Some-empty c = λ text same.
    let arm = c.in-Ok-Some-empty in
    c.instant_at.ensures
    ∙ found_whole c.args.octets.now arm.field-0-1.now arm.field-0-0 arm.time arm.ensures arm.field-0-0-is
    (omega (arith, arm.len_below)) text same

pub returns-in-Ok-Some-default : goal.returns-in-Ok-Some-default
returns-in-Ok-Some-default c =
    let arm = c.in-Ok-Some-default in
    found_more c.args.octets.now arm.field-0-1.now _ arm.ensures (omega (arith, arm.len_at_least))

pub returns-in-Ok-None-default : goal.returns-in-Ok-None-default
returns-in-Ok-None-default c =
    let arm = c.in-Ok-None-default in
    found_nil c.args.octets.now arm.field-0-1.now arm.field-0-0 arm.ensures arm.field-0-0-is

pub returns-in-Err : goal.returns-in-Err
returns-in-Err c = found_nothing c.args.octets.now c.in-Err.ensures.none
