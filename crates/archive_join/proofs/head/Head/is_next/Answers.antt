use Rattle.archive_text.specs.EntryViews.{entry_of}
use Rattle.archive_join.proofs.NextEntries.{next_greater, next_less}
use Rattle.archive_join.proofs.head.Head.is_next.Goals as goal

pub returns-in-Less : goal.returns-in-Less
returns-in-Less c =
    next_less (entry_of c.args.entry.now) (entry_of c.entry.result) c.args.self.now c.if-self.false c.entry.ensures
    c.in-Less.ensures

pub returns-in-Greater : goal.returns-in-Greater
returns-in-Greater c =
    next_greater (entry_of c.args.entry.now) (entry_of c.entry.result) c.args.self.now c.if-self.false c.entry.ensures
    c.in-Greater.ensures
