use Rattle.std.proofs.Common.{◌-◌, ◌≤◌, length, take, drop}
use Rattle.archive_text.specs.EntryViews.{entry_of}
use Rattle.archive_pages.specs.Spans.{blocks_of}
use Rattle.archive_pages.specs.Places.{AreAbove, AreBelow}
use Rattle.archive_pages.proofs.search.search_page.Given as goal

abbrev pub invariant-loop-low : goal.invariant-loop-low
invariant-loop-low l = record {
  ordered : l.low ≤ l.high;
  within : l.high ≤ length l.page;
  below : AreBelow (blocks_of l.arena) (entry_of l.entry) (take l.low l.page);
  above : AreAbove (blocks_of l.arena) (entry_of l.entry) (drop l.high l.page);
}

abbrev pub decreases-loop-low : goal.decreases-loop-low
decreases-loop-low l = l.high - l.low
