use Rattle.archive_text.specs.EntryViews.{entry_of}
use Rattle.archive_pages.specs.Spans.{blocks_of, lists_of}
use Rattle.archive_pages.proofs.Adding.{none_held}
use Rattle.archive_pages.proofs.index.holds_entry.Goals as goal

pub returns : goal.returns
returns c =
    none_held (blocks_of c.args.arena.now) (lists_of c.args.pages.now) (entry_of c.args.entry.now)
    c.place_of-place.result c.is_none.result c.is_none.ensures c.place_of-place.ensures
