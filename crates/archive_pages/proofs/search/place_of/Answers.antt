use Rattle.std.proofs.Common.{◌≡◌, ◌-◌, ap, arith, length, refl}
use Rattle.archive_text.specs.EntryViews.{entry_of}
use Rattle.archive_pages.specs.Spans.{blocks_of}
use Rattle.archive_pages.proofs.PageLists.{count_is, page_is}
use Rattle.archive_pages.proofs.Searching.{at_last, goes_in, held_in, held_last, page_in_order, page_some, page_within}
use Rattle.archive_pages.proofs.search.place_of.Goals as goal

pub compare_last-requires-clause-some : goal.compare_last-requires-clause-some
compare_last-requires-clause-some c =
    page_some (blocks_of c.args.arena.now) c.args.pages.now _ c.index-pages-end.result c.deref.result.now
    c.requires.pages (omega arith) c.index-pages-end.is c.deref.ensures.value

pub compare_last-requires-clause-within : goal.compare_last-requires-clause-within
compare_last-requires-clause-within c =
    page_within (blocks_of c.args.arena.now) c.args.pages.now _ c.index-pages-end.result c.deref.result.now
    c.requires.pages (omega arith) c.index-pages-end.is c.deref.ensures.value

pub returns-in-Less : goal.returns-in-Less
returns-in-Less c =
    let vs = c.args.pages.now in
    let end = length vs - 1 in
    let again = c.index-pages-end-in-Less in
    let one = ap length (page_is vs end c.index-pages-end.result c.deref.result.now (omega arith) c.index-pages-end.is
    c.deref.ensures.value) in
    let two = ap length (page_is vs end again.result again.result.items (omega arith) again.is refl) in
    let count : c.len.result ≡ length c.deref.result.now = omega (arith, one, two, c.len.ensures, again.result.ok.0) in
    at_last (blocks_of c.args.arena.now) vs (entry_of c.args.entry.now) end c.len.result c.index-pages-end.result
    c.deref.result.now c.compare_last.result c.requires.pages (omega arith)
    c.index-pages-end.is c.deref.ensures.value count c.compare_last.ensures c.in-Less.is

pub returns-in-Equal : goal.returns-in-Equal
returns-in-Equal c =
    held_last (blocks_of c.args.arena.now) c.args.pages.now (entry_of c.args.entry.now) _ c.index-pages-end.result
    c.deref.result.now c.compare_last.result c.requires.pages (omega arith)
    c.index-pages-end.is c.deref.ensures.value c.compare_last.ensures c.in-Equal.is

pub search_page-requires-clause-within : goal.search_page-requires-clause-within
search_page-requires-clause-within c =
    page_within (blocks_of c.args.arena.now) c.args.pages.now c.page_for-page.result c.index-pages-page.result
    c.deref-2.result.now c.requires.pages
    (omega (arith, c.page_for-page.ensures.within, count_is c.args.pages.now)) c.index-pages-page.is
    c.deref-2.ensures.value

pub search_page-requires-clause-ascending : goal.search_page-requires-clause-ascending
search_page-requires-clause-ascending c =
    page_in_order (blocks_of c.args.arena.now) c.args.pages.now c.page_for-page.result c.index-pages-page.result
    c.deref-2.result.now c.requires.pages
    (omega (arith, c.page_for-page.ensures.within, count_is c.args.pages.now)) c.index-pages-page.is
    c.deref-2.ensures.value

pub returns-in_err-index : goal.returns-in_err-index
returns-in_err-index c =
    rw c.from_residual.ensures
    (held_in (blocks_of c.args.arena.now) c.args.pages.now (entry_of c.args.entry.now) c.page_for-page.result
    c.index-pages-page.result c.deref-2.result.now
    (omega (arith, c.page_for-page.ensures.within, count_is c.args.pages.now)) c.index-pages-page.is
    c.deref-2.ensures.value c.in_err-index.ensures)

pub returns : goal.returns
returns c =
    goes_in (blocks_of c.args.arena.now) c.args.pages.now (entry_of c.args.entry.now) c.page_for-page.result
    c.in_ok-index.index c.index-pages-page.result c.deref-2.result.now
    (omega (arith, c.page_for-page.ensures.within, count_is c.args.pages.now)) c.index-pages-page.is
    c.deref-2.ensures.value c.page_for-page.ensures c.in_ok-index.ensures
