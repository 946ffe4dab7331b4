use Rattle.std.proofs.Common.{◌-◌, arith, length, refl}
use Rattle.std.specs.Prelude.{slice_index_or}
use Rattle.archive_text.specs.EntryViews.{entry_of}
use Rattle.archive_pages.specs.Spans.{blocks_of, entry_at}
use Rattle.archive_pages.proofs.Searching.{last_order, read_at, spare}
use Rattle.archive_pages.proofs.search.compare_last.Goals as goal

pub returns : goal.returns
returns c =
    let page = c.args.page.now in
    let last = length page - 1 in
    let s = slice_index_or page last spare in
    let blocks = blocks_of c.args.arena.now in
    last_order blocks page last s (entry_at blocks s) (entry_of c.args.entry.now) c.compare_span.result
    (omega (arith, c.requires.some)) refl (read_at page last (omega (arith, c.requires.some))) refl
    c.compare_span.ensures
