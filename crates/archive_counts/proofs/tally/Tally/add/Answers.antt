use Rattle.archive_text.specs.EntryViews.{entry_of}
use Rattle.archive_counts.proofs.Tallies.{tally_more}
use Rattle.archive_counts.proofs.tally.Tally.add.Goals as goal

pub returns : goal.returns
returns c = λ es up short h.
    tally_more c.args.self.now _ es (entry_of c.args.entry.now) c.entry_len.result
    (record {
      sized = c.entry_len.ensures;
      records = c.saturating_add-self.ensures;
      octets = c.saturating_add-self-2.ensures;
      first = c.or-self.ensures;
      last = c.or-self-2.ensures;
    }) up short h
