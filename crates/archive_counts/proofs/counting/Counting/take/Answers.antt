use Rattle.std.proofs.Common.{refl}
use Rattle.archive_text.specs.EntryViews.{entry_of}
use Rattle.archive_counts.proofs.Steps.{takes_words}
use Rattle.archive_counts.proofs.counting.Counting.take.Goals as goal

pub returns-clause-taken : goal.returns-clause-taken
returns-clause-taken c =
    takes_words c.args.keys.now c.args.self.now
    (record { entries = c.args.self.now.entries; table = c.add.new.self; words = c.put_words.new.out })
    (entry_of c.entry-entry.result) c.clear.new.self.items c.put_words.new.out.items c.as_slice.result.now c.add.result
    c.entry-entry.ensures c.clear.ensures.items c.in_ok-put_words.ensures c.as_slice.ensures.value c.add.ensures refl
