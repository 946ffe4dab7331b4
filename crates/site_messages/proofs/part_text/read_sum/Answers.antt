use Rattle.std.proofs.lemmas.Result.{err_from_is_err_and}
use Rattle.site_messages.proofs.RangeLemmas.{rest_splits, sum_splits}
use Rattle.site_messages.proofs.Wholes.{both_whole, first_gap, second_gap}
use Rattle.site_messages.proofs.part_text.read_sum.Goals as goal

pub returns-in_err-length : goal.returns-in_err-length
returns-in_err-length c =
    let p = err_from_is_err_and c.from_residual-in_err-length.result c.from_residual-in_err-length.ensures.1 in
    rw (p.1, p.2) (second_gap _ _ _ _ _ _ _ _ sum_splits c.args.octets.now c.in_ok-records.rest.now
    c.in_ok-records.records c.in_err-length.field-0.0 c.in_ok-records.ensures
    (first_gap _ _ _ _ _ _ _ _ rest_splits c.in_ok-records.rest.now c.in_err-length.field-0.0
    c.in_err-length.ensures))

pub returns-in_err-digest : goal.returns-in_err-digest
returns-in_err-digest c =
    let p = err_from_is_err_and c.from_residual-in_err-digest.result c.from_residual-in_err-digest.ensures.1 in
    rw (p.1, p.2) (second_gap _ _ _ _ _ _ _ _ sum_splits c.args.octets.now c.in_ok-records.rest.now
    c.in_ok-records.records c.in_err-digest.field-0.0 c.in_ok-records.ensures
    (second_gap _ _ _ _ _ _ _ _ rest_splits c.in_ok-records.rest.now c.in_ok-length.rest.now c.in_ok-length.length
    c.in_err-digest.field-0.0 c.in_ok-length.ensures c.in_err-digest.ensures))

pub returns : goal.returns
returns c =
    both_whole _ _ _ _ _ _ _ _ sum_splits
    (record { records = c.in_ok-records.records; octets = c.in_ok-length.length; digest = c.in_ok-digest.digest })
    c.args.octets.now c.in_ok-records.rest.now c.in_ok-digest.rest.now c.in_ok-records.ensures
    (both_whole _ _ _ _ _ _ _ _ rest_splits (c.in_ok-length.length, c.in_ok-digest.digest) c.in_ok-records.rest.now
    c.in_ok-length.rest.now c.in_ok-digest.rest.now c.in_ok-length.ensures c.in_ok-digest.ensures)
