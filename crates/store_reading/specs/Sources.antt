-- Files, and octets in memory, as inputs of one type; and the entries of a set in memory.
use Rattle.std.specs.Prelude.{List, Some, ◌≤◌}
use Rattle.octet_devices.specs.Device.{InputState}
use Rattle.archive_text.specs.Entries.{Entry}
use Rattle.archive_pages.specs.Pages.{entries_of}
use Rattle.archive_pages.specs.Spans.{blocks_of, lists_of}
use Rattle.archive_pages.specs.declared.paged.PagedArchive.{PagedArchive}
use Rattle.store_reading.specs.declared.source.Source.{Source}
use Rattle.store_reading.specs.declared.source.Source.TheVariants.{File, Octets}

-- what a source shows, by what its files show
abbrev pub source_state : {R : Type 0} → (R → InputState) → Source R → InputState
source_state state (File file) = state file
source_state state (Octets o) = record {
  calls = o.counts.calls;
  failures = o.counts.failures;
  ends = o.counts.ends;
  left = Some o.reader.now;
}

-- it gave its end no more often than it was called
pub source_ends : {R : Type 0} (state : R → InputState) → ((r : R) → (state r).ends ≤ (state r).calls)
    → (s : Source R) → (source_state state s).ends ≤ (source_state state s).calls
source_ends state few (File file) = few file
source_ends state few (Octets o) = o.counts.few_ends

abbrev pub set_entries : PagedArchive → List Entry
set_entries s = entries_of (blocks_of s.arena) (lists_of s.pages.items)
