use Rattle.site_messages.specs.Views.{range_of}
use Rattle.site_messages.proofs.RangeLemmas.{told_splits}
use Rattle.site_messages.proofs.Wholes.{both_whole, second_gap}
use Rattle.site_messages.proofs.part_text.read_told.Goals as goal

pub returns-in-Err : goal.returns-in-Err
returns-in-Err c =
    second_gap _ _ _ _ _ _ _ _ told_splits c.args.octets.now c.in_ok-sum.rest.now c.in_ok-sum.sum c.in-Err.gap
    c.in_ok-sum.ensures c.in-Err.ensures

pub returns-in-Ok : goal.returns-in-Ok
returns-in-Ok c =
    both_whole _ _ _ _ _ _ _ _ told_splits (record { range = range_of c.in-Ok.range; sum = c.in_ok-sum.sum })
    c.args.octets.now c.in_ok-sum.rest.now c.in-Ok.rest.now c.in_ok-sum.ensures c.in-Ok.ensures
