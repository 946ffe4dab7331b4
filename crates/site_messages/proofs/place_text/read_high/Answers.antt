use Rattle.archive_text.specs.EntryViews.{entry_of}
use Rattle.site_messages.proofs.PlaceLemmas.{bound_gap, bound_whole, open_gap, open_whole, some_of}
use Rattle.site_messages.proofs.place_text.read_high.Goals as goal

pub returns-in-Err : goal.returns-in-Err
returns-in-Err c =
    open_gap c.args.octets.now c.in-Err.gap (some_of c.args.octets.now c.if-is_empty.ensures) c.if-octets-eq111.true
    c.in-Err.ensures

pub returns-in-Ok : goal.returns-in-Ok
returns-in-Ok c = open_whole c.args.octets.now c.in-Ok.rest.now c.in-Ok.ensures

pub returns-in-Err-read_place : goal.returns-in-Err-read_place
returns-in-Err-read_place c =
    bound_gap c.args.octets.now c.in-Err-read_place.gap (some_of c.args.octets.now c.if-is_empty.ensures)
    c.if-octets-eq111.false c.in-Err-read_place.ensures

pub returns-in-Ok-read_place : goal.returns-in-Ok-read_place
returns-in-Ok-read_place c =
    bound_whole c.args.octets.now c.in-Ok-read_place.rest.now (entry_of c.in-Ok-read_place.high)
    (some_of c.args.octets.now c.if-is_empty.ensures) c.if-octets-eq111.false c.in-Ok-read_place.ensures
