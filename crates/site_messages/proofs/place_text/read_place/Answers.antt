use Rattle.site_messages.proofs.PlaceLemmas.{place_splits}
use Rattle.site_messages.proofs.Wholes.{both_whole, first_gap, second_gap}
use Rattle.site_messages.proofs.place_text.read_place.Goals as goal

pub returns-in-Err : goal.returns-in-Err
returns-in-Err c =
    first_gap _ _ _ _ _ _ _ _ (place_splits c.args.end.now) c.args.octets.now c.in-Err.gap c.in-Err.ensures

pub returns-in-Err-read_counted_and : goal.returns-in-Err-read_counted_and
returns-in-Err-read_counted_and c =
    second_gap _ _ _ _ _ _ _ _ (place_splits c.args.end.now) c.args.octets.now c.in-Ok.rest.now c.in-Ok.instant
    c.in-Err-read_counted_and.gap c.in-Ok.ensures c.in-Err-read_counted_and.ensures

pub returns-in-Ok-read_counted_and : goal.returns-in-Ok-read_counted_and
returns-in-Ok-read_counted_and c =
    both_whole _ _ _ _ _ _ _ _ (place_splits c.args.end.now)
    (record { instant = c.in-Ok.instant; octets = c.in-Ok-read_counted_and.octets.now }) c.args.octets.now
    c.in-Ok.rest.now c.in-Ok-read_counted_and.rest.now c.in-Ok.ensures c.in-Ok-read_counted_and.ensures
