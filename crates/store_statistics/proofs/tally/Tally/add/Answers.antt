use Rattle.archive_text.specs.EntryViews.{entry_of}
use Rattle.store_statistics.proofs.Counting.{tally_more}
use Rattle.store_statistics.proofs.tally.Tally.add.Goals as goal

pub returns : goal.returns
returns c = λ es h.
    tally_more c.args.self.now _ es (entry_of c.args.entry.now) c.saturating_add-self.ensures c.earlier-self.ensures
    c.later-self.ensures h
