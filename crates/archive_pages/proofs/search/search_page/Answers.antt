use Rattle.std.proofs.Common.{arith, refl}
use Rattle.std.specs.Prelude.{slice_index_or}
use Rattle.archive_text.specs.EntryViews.{entry_of}
use Rattle.archive_pages.specs.Spans.{blocks_of, entry_at}
use Rattle.archive_pages.proofs.Searching.{above_index, below_index, has_index, order_above, order_below, order_same}
use Rattle.archive_pages.proofs.Searching.{read_at, spare}
use Rattle.archive_pages.proofs.search.search_page.Goals as goal

pub loop-low-preserved-in-Less : goal.loop-low-preserved-in-Less
loop-low-preserved-in-Less c =
    let blocks = blocks_of c.args.arena.now in
    let e = entry_of c.args.entry.now in
    let page = c.args.page.now in
    let index = c.next_index-index.result in
    let s = slice_index_or page index spare in
    record {
      ordered = omega arith;
      within = omega arith;
      below = below_index blocks e page index s (omega arith) (read_at page index (omega arith)) c.requires.ascending
          (order_below (entry_at blocks s) (entry_at blocks s) e c.compare_span.result refl c.compare_span.ensures
          c.in-Less.is);
      above = c.loop-low.invariant.above;
    }

pub returns-in-Equal : goal.returns-in-Equal
returns-in-Equal c =
    let blocks = blocks_of c.args.arena.now in
    let e = entry_of c.args.entry.now in
    let page = c.args.page.now in
    let index = c.next_index-index.result in
    let s = slice_index_or page index spare in
    has_index blocks e page index s (omega arith) (read_at page index (omega arith))
    (order_same (entry_at blocks s) (entry_at blocks s) e c.compare_span.result refl c.compare_span.ensures
    c.in-Equal.is)

pub loop-low-preserved : goal.loop-low-preserved
loop-low-preserved c =
    let blocks = blocks_of c.args.arena.now in
    let e = entry_of c.args.entry.now in
    let page = c.args.page.now in
    let index = c.next_index-index.result in
    let s = slice_index_or page index spare in
    record {
      ordered = omega arith;
      within = omega arith;
      below = c.loop-low.invariant.below;
      above = above_index blocks e page index s (omega arith) (read_at page index (omega arith)) c.requires.ascending
          (order_above (entry_at blocks s) (entry_at blocks s) e c.compare_span.result refl c.compare_span.ensures
          c.in-Greater.is);
    }
