use Rattle.std.proofs.Common.{◌≡◌, ◌+◌, ◌-◌, arith, subst, sym, drop, take}
use Rattle.archive_text.specs.EntryViews.{entry_of}
use Rattle.archive_pages.specs.Pages.{joined}
use Rattle.archive_pages.specs.Places.{AreAbove, AreBelow, BeginsAbove, BeginsUpTo, IsPage}
use Rattle.archive_pages.specs.Spans.{blocks_of, lists_of}
use Rattle.archive_pages.proofs.PageLists.{count_is, page_is}
use Rattle.archive_pages.proofs.Searching.{page_above, page_found, page_some, page_up_to, page_within}
use Rattle.archive_pages.proofs.search.page_for.Goals as goal

pub begins_above-requires-clause-some : goal.begins_above-requires-clause-some
begins_above-requires-clause-some c =
    page_some (blocks_of c.args.arena.now) c.args.pages.now _ c.index-pages-page.result c.deref.result.now
    c.requires.pages (omega arith) c.index-pages-page.is c.deref.ensures.value

pub begins_above-requires-clause-within : goal.begins_above-requires-clause-within
begins_above-requires-clause-within c =
    page_within (blocks_of c.args.arena.now) c.args.pages.now _ c.index-pages-page.result c.deref.result.now
    c.requires.pages (omega arith) c.index-pages-page.is c.deref.ensures.value

pub loop-low-preserved-then-begins_above : goal.loop-low-preserved-then-begins_above
loop-low-preserved-then-begins_above c =
    let blocks = blocks_of c.args.arena.now in
    let e = entry_of c.args.entry.now in
    let middle = c.next_page-page.result in
    let pages = lists_of c.args.pages.now in
    let page = page_is c.args.pages.now middle c.index-pages-page.result c.deref.result.now (omega arith)
    c.index-pages-page.is c.deref.ensures.value in
    record {
      ordered = omega arith;
      within = omega arith;
      below = c.loop-low.invariant.below;
      above = page_above blocks pages e middle c.requires.pages (omega (arith, count_is c.args.pages.now))
          (subst (λ p. BeginsAbove blocks p e) page c.if-begins_above.ensures);
    }

pub loop-low-preserved : goal.loop-low-preserved
loop-low-preserved c =
    let blocks = blocks_of c.args.arena.now in
    let e = entry_of c.args.entry.now in
    let middle = c.next_page-page.result in
    let pages = lists_of c.args.pages.now in
    let page = page_is c.args.pages.now middle c.index-pages-page.result c.deref.result.now (omega arith)
    c.index-pages-page.is c.deref.ensures.value in
    let back : middle + 1 - 1 ≡ middle = omega arith in
    let below = page_up_to blocks pages e middle c.requires.pages (omega (arith, count_is c.args.pages.now))
    (subst (λ p. BeginsUpTo blocks p e) page c.if-begins_above.ensures) in
    record {
      ordered = omega arith;
      within = omega arith;
      below = subst (λ k. AreBelow blocks e (joined (take k pages))) (sym back) below;
      above = c.loop-low.invariant.above;
    }

pub returns : goal.returns
returns c =
    let blocks = blocks_of c.args.arena.now in
    let e = entry_of c.args.entry.now in
    let pages = lists_of c.args.pages.now in
    let met : c.loop-low.high ≡ c.loop-low.low = omega arith in
    let count = count_is c.args.pages.now in
    subst (λ k. IsPage blocks pages e k) (sym c.saturating_sub.ensures)
    (page_found blocks pages e c.loop-low.low (omega (arith, count, c.requires.some))
    (omega (arith, count, c.loop-low.invariant.within)) c.loop-low.invariant.below
    (subst (λ k. AreAbove blocks e (joined (drop k pages))) met c.loop-low.invariant.above))
