use Rattle.std.proofs.Common.{◌≡◌, IsTrue, false, rules}
use Rattle.archive_text.specs.EntryViews.{entry_of}
use Rattle.store_reading.proofs.Batched.{no_more}
use Rattle.store_reading.proofs.Parted.{shorter}
use Rattle.store_statistics.proofs.Journals.{batch_begun, batch_counted, batch_more, none_counted}
use Rattle.store_statistics.proofs.batches.count_batch.Goals as goal

pub entries-init : goal.entries-init
entries-init c = batch_begun c.args.tally.now c.args.body.now

pub entries-preserved : goal.entries-preserved
entries-preserved c =
    batch_more c.args.tally.now c.entries.tally c.add.new.self c.args.body.now c.entries.rest.now
    c.in-Ok.behind.now (entry_of c.in-Ok.entry) c.entries.invariant c.in-Ok.ensures c.add.ensures

pub entries-smaller : goal.entries-smaller
entries-smaller c = shorter c.entries.rest.now (entry_of c.in-Ok.entry) c.in-Ok.behind.now c.in-Ok.ensures

pub returns : goal.returns
returns c =
    let off : c.has_entry.result ≡ false = search rules in
    batch_counted c.args.tally.now c.entries.tally c.args.body.now c.entries.rest.now c.entries.invariant
    (no_more c.has_entry.result c.entries.rest.now c.has_entry.ensures off)

pub returns-in_default : goal.returns-in_default
returns-in_default c = λ before es batch h.
    let on : IsTrue c.has_entry.result = search rules in
    absurd (none_counted c.args.tally.now c.entries.tally c.args.body.now c.entries.rest.now _ c.entries.invariant
    c.in_default.ensures (c.has_entry.ensures.0 on) es batch)
