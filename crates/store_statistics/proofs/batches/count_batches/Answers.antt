use Rattle.store_reading.proofs.Batched.{shorter_rest}
use Rattle.store_statistics.proofs.Journals.{journal_begun, journal_counted, journal_more}
use Rattle.store_statistics.proofs.batches.count_batches.Goals as goal

pub batches-init : goal.batches-init
batches-init c = journal_begun c.new-tally.result c.args.file.now c.new-tally.ensures

pub batches-preserved : goal.batches-preserved
batches-preserved c =
    journal_more c.batches.tally c.count_batch.new.tally c.args.file.now c.batches.rest.now c.in-Some.body.now
    c.in-Some.behind.now c.batches.invariant c.in-Some.ensures.some c.count_batch.ensures

pub batches-smaller : goal.batches-smaller
batches-smaller c =
    shorter_rest c.batches.rest.now c.in-Some.body.now c.in-Some.behind.now c.in-Some.ensures.some

pub returns : goal.returns
returns c =
    journal_counted c.batches.tally c.args.file.now c.batches.rest.now c.batches.invariant c.in_default.ensures.none
