use Rattle.std.proofs.Common.{subst, sym}
use Rattle.std.specs.List.{AllByRecursion}
use Rattle.archive_text.specs.Entries.{IsEntry}
use Rattle.archive_pages.specs.Pages.{entries_of, joined}
use Rattle.archive_pages.specs.Spans.{IsWithin, blocks_of, lists_of}
use Rattle.archive_pages.proofs.Onward.{all_from, instant_from}
use Rattle.archive_pages.proofs.paged.PagedArchive.next.Goals as goal

pub instant_of-requires : goal.instant_of-requires
instant_of-requires c =
    let s = c.args.self.now in
    let blocks = blocks_of s.arena in
    instant_from blocks (lists_of c.deref.result.now) c.args.place.page c.args.place.index c.in_ok-span.span _
    (subst (λ ps. AllByRecursion IsEntry (entries_of blocks (lists_of ps))) (sym c.deref.ensures.value) s.paged.archive.entries)
    c.in_ok-span.ensures.some

pub octets-requires : goal.octets-requires
octets-requires c =
    let s = c.args.self.now in
    let blocks = blocks_of s.arena in
    all_from (IsWithin blocks) (lists_of c.deref.result.now) c.args.place.page c.args.place.index c.in_ok-span.span _
    (subst (λ ps. AllByRecursion (IsWithin blocks) (joined (lists_of ps))) (sym c.deref.ensures.value) s.paged.within)
    c.in_ok-span.ensures.some
