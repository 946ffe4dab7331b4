use Rattle.std.proofs.Common.{◌∙◌, ap, refl, sym}
use Rattle.std.proofs.lemmas.Result.{on_err_weaker, on_ok_weaker}
use Rattle.archive_text.specs.EntryViews.{entry_of}
use Rattle.archive_pages.specs.Spans.{blocks_of, lists_of}
use Rattle.archive_pages.proofs.Adding.{adds_more, entries_same, gains_first, paged_more, paged_same, paged_stays}
use Rattle.archive_pages.proofs.Adding.{same_entries}
use Rattle.archive_pages.proofs.PageLists.{either_way, on_err}
use Rattle.archive_pages.proofs.index.add_first.Goals as goal

pub returns-in_err-span-clause-paged : goal.returns-in_err-span-clause-paged
returns-in_err-span-clause-paged c =
    paged_stays (blocks_of c.args.arena.now) (blocks_of c.push.new.self) (lists_of c.args.pages.now.items)
    c.in_err-span.ensures.keeps c.requires.paged

pub returns-in_err-span-clause-err : goal.returns-in_err-span-clause-err
returns-in_err-span-clause-err c =
    on_err c.from_residual.result (record {
      pages_kept = refl;
      entries_kept = same_entries (blocks_of c.args.arena.now) (blocks_of c.push.new.self)
          (lists_of c.args.pages.now.items) c.in_err-span.ensures.keeps c.requires.paged;
    })

pub returns-clause-paged : goal.returns-clause-paged
returns-clause-paged c =
    let old = blocks_of c.args.arena.now in
    let new = blocks_of c.push.new.self in
    let pages = lists_of c.args.pages.now.items in
    let more = lists_of c.push_first.new.pages.items in
    let e = entry_of c.args.entry.now in
    let s = c.in_ok-span.span in
    either_way c.push_first.result c.push_first.ensures.ok c.push_first.ensures.err
    (λ joins. paged_more old new pages more s e c.requires.paged c.requires.entry c.requires.fits
    (gains_first old new pages more s e (ap (λ vs. lists_of vs) c.requires.none) joins c.in_ok-span.ensures.keeps
    c.in_ok-span.ensures.within c.in_ok-span.ensures.value))
    (λ same. paged_same old new pages more c.requires.paged c.in_ok-span.ensures.keeps
    (ap (λ vs. lists_of vs) (same ∙ sym c.requires.none)))

pub returns-clause-ok : goal.returns-clause-ok
returns-clause-ok c =
    let old = blocks_of c.args.arena.now in
    let new = blocks_of c.push.new.self in
    let pages = lists_of c.args.pages.now.items in
    let more = lists_of c.push_first.new.pages.items in
    let e = entry_of c.args.entry.now in
    let s = c.in_ok-span.span in
    on_ok_weaker c.push_first.result (λ joins.
    adds_more old new pages more s e c.requires.paged
    (gains_first old new pages more s e (ap (λ vs. lists_of vs) c.requires.none) joins c.in_ok-span.ensures.keeps
    c.in_ok-span.ensures.within c.in_ok-span.ensures.value)) c.push_first.ensures.ok

pub returns-clause-err : goal.returns-clause-err
returns-clause-err c =
    let old = blocks_of c.args.arena.now in
    let new = blocks_of c.push.new.self in
    let pages = lists_of c.args.pages.now.items in
    let more = lists_of c.push_first.new.pages.items in
    on_err_weaker c.push_first.result (λ same.
    let kept = ap (λ vs. lists_of vs) (same ∙ sym c.requires.none) in
    record {
      pages_kept = kept;
      entries_kept = entries_same old new pages more c.requires.paged c.in_ok-span.ensures.keeps kept;
    }) c.push_first.ensures.err
