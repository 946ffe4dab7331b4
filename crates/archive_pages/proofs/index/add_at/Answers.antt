use Rattle.std.proofs.Common.{arith, refl}
use Rattle.std.proofs.lemmas.Result.{on_err_weaker, on_ok_weaker}
use Rattle.archive_text.specs.EntryViews.{entry_of}
use Rattle.archive_pages.specs.Spans.{blocks_of, lists_of}
use Rattle.archive_pages.proofs.Adding.{adds_more, entries_same, gains_at, paged_more, paged_same, paged_stays}
use Rattle.archive_pages.proofs.Adding.{same_entries}
use Rattle.archive_pages.proofs.PageLists.{count_is, either_way, on_err}
use Rattle.archive_pages.proofs.index.add_at.Goals as goal

pub returns-in_err-span-clause-paged : goal.returns-in_err-span-clause-paged
returns-in_err-span-clause-paged c =
    paged_stays (blocks_of c.args.arena.now) (blocks_of c.push.new.self) (lists_of c.args.pages.now.items)
    c.in_err-span.ensures.keeps c.requires.paged

pub returns-in_err-span-clause-err : goal.returns-in_err-span-clause-err
returns-in_err-span-clause-err c =
    on_err c.from_residual.result (record {
      pages_kept = refl;
      entries_kept = same_entries (blocks_of c.args.arena.now) (blocks_of c.push.new.self)
          (lists_of c.args.pages.now.items) c.in_err-span.ensures.keeps c.requires.paged;
    })

pub insert_span-requires-clause-page_in : goal.insert_span-requires-clause-page_in
insert_span-requires-clause-page_in c = omega (arith, c.requires.place.page, count_is c.args.pages.now.items)

pub returns-clause-paged : goal.returns-clause-paged
returns-clause-paged c =
    let old = blocks_of c.args.arena.now in
    let new = blocks_of c.push.new.self in
    let pages = lists_of c.args.pages.now.items in
    let more = lists_of c.insert_span.new.pages.items in
    let e = entry_of c.args.entry.now in
    let s = c.in_ok-span.span in
    either_way c.insert_span.result c.insert_span.ensures.ok c.insert_span.ensures.err
    (λ joins. paged_more old new pages more s e c.requires.paged c.requires.entry c.requires.fits
    (gains_at old new pages more s e c.args.page c.args.index c.requires.place joins c.insert_span.ensures.sizes
    c.in_ok-span.ensures.keeps c.in_ok-span.ensures.within c.in_ok-span.ensures.value))
    (λ same. paged_same old new pages more c.requires.paged c.in_ok-span.ensures.keeps same)

pub returns-clause-ok : goal.returns-clause-ok
returns-clause-ok c =
    let old = blocks_of c.args.arena.now in
    let new = blocks_of c.push.new.self in
    let pages = lists_of c.args.pages.now.items in
    let more = lists_of c.insert_span.new.pages.items in
    let e = entry_of c.args.entry.now in
    let s = c.in_ok-span.span in
    on_ok_weaker c.insert_span.result (λ joins.
    adds_more old new pages more s e c.requires.paged
    (gains_at old new pages more s e c.args.page c.args.index c.requires.place joins c.insert_span.ensures.sizes
    c.in_ok-span.ensures.keeps c.in_ok-span.ensures.within c.in_ok-span.ensures.value)) c.insert_span.ensures.ok

pub returns-clause-err : goal.returns-clause-err
returns-clause-err c =
    let old = blocks_of c.args.arena.now in
    let new = blocks_of c.push.new.self in
    let pages = lists_of c.args.pages.now.items in
    let more = lists_of c.insert_span.new.pages.items in
    on_err_weaker c.insert_span.result (λ same. record {
      pages_kept = same;
      entries_kept = entries_same old new pages more c.requires.paged c.in_ok-span.ensures.keeps same;
    }) c.insert_span.ensures.err
