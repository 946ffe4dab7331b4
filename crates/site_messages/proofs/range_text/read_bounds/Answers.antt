use Rattle.std.specs.Prelude.{option_map}
use Rattle.archive_text.specs.EntryViews.{entry_of}
use Rattle.site_messages.proofs.RangeLemmas.{bounds_splits}
use Rattle.site_messages.proofs.Wholes.{both_whole, first_gap, second_gap}
use Rattle.site_messages.proofs.range_text.read_bounds.Goals as goal

pub returns-in-Err : goal.returns-in-Err
returns-in-Err c = first_gap _ _ _ _ _ _ _ _ bounds_splits c.args.octets.now c.in-Err.gap c.in-Err.ensures

pub returns-in-Err-read_high : goal.returns-in-Err-read_high
returns-in-Err-read_high c =
    second_gap _ _ _ _ _ _ _ _ bounds_splits c.args.octets.now c.in-Ok.rest.now (entry_of c.in-Ok.low)
    c.in-Err-read_high.gap c.in-Ok.ensures c.in-Err-read_high.ensures

pub returns-in-Ok-read_high : goal.returns-in-Ok-read_high
returns-in-Ok-read_high c =
    both_whole _ _ _ _ _ _ _ _ bounds_splits
    (record { low = entry_of c.in-Ok.low; high = option_map entry_of c.in-Ok-read_high.high }) c.args.octets.now
    c.in-Ok.rest.now c.in-Ok-read_high.rest.now c.in-Ok.ensures c.in-Ok-read_high.ensures
