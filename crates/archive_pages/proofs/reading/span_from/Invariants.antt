use Rattle.std.proofs.Common.{◌≡◌, ◌-◌, length}
use Rattle.archive_pages.specs.Pages.{after}
use Rattle.archive_pages.specs.Spans.{lists_of}
use Rattle.archive_pages.proofs.reading.span_from.Given as goal

abbrev pub invariant-pages : goal.invariant-pages
invariant-pages l = after (lists_of l.pages) l.page l.index ≡ after (lists_of l.pages) l.fn.place.page l.fn.place.index

abbrev pub decreases-pages : goal.decreases-pages
decreases-pages l = length l.pages - l.page
