use Rattle.std.proofs.Common.{◌-◌, ◌≤◌, length, take, drop}
use Rattle.archive_text.specs.EntryViews.{entry_of}
use Rattle.archive_pages.specs.Spans.{blocks_of, lists_of}
use Rattle.archive_pages.specs.Pages.{joined}
use Rattle.archive_pages.specs.Places.{AreAbove, AreBelow}
use Rattle.archive_pages.proofs.search.page_for.Given as goal

abbrev pub invariant-loop-low : goal.invariant-loop-low
invariant-loop-low l = record {
  ordered : l.low ≤ l.high;
  within : l.high ≤ length l.pages;
  below : AreBelow (blocks_of l.arena) (entry_of l.entry) (joined (take (l.low - 1) (lists_of l.pages)));
  above : AreAbove (blocks_of l.arena) (entry_of l.entry) (joined (drop l.high (lists_of l.pages)));
}

abbrev pub decreases-loop-low : goal.decreases-loop-low
decreases-loop-low l = l.high - l.low
