use Rattle.std.proofs.lemmas.Result.{err_from_is_err_and}
use Rattle.site_messages.proofs.PlaceLemmas.{counted_and_splits}
use Rattle.site_messages.proofs.Wholes.{both_whole, first_gap, second_gap}
use Rattle.site_messages.proofs.place_text.read_counted_and.Goals as goal

pub returns-in_err-octets : goal.returns-in_err-octets
returns-in_err-octets c =
    let p = err_from_is_err_and c.from_residual.result c.from_residual.ensures.1 in
    rw (p.1, p.2) (first_gap _ _ _ _ _ _ _ _ (counted_and_splits c.args.end.now) c.args.octets.now
    c.in_err-octets.field-0.0 c.in_err-octets.ensures)

pub returns-in_err-rest : goal.returns-in_err-rest
returns-in_err-rest c =
    let p = err_from_is_err_and c.from_residual-in_err-rest.result c.from_residual-in_err-rest.ensures.1 in
    rw (p.1, p.2) (second_gap _ _ _ _ _ _ _ _ (counted_and_splits c.args.end.now) c.args.octets.now
    c.in_ok-octets.rest.now c.in_ok-octets.octets.now c.in_err-rest.field-0.0 c.in_ok-octets.ensures
    c.in_err-rest.ensures)

pub returns : goal.returns
returns c =
    both_whole _ _ _ _ _ _ _ _ (counted_and_splits c.args.end.now) c.in_ok-octets.octets.now c.args.octets.now
    c.in_ok-octets.rest.now c.in_ok-rest.rest.now c.in_ok-octets.ensures c.in_ok-rest.ensures
