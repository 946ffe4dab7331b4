-- What records and their archive hold.
use Rattle.std.specs.Prelude.{List}
use Rattle.archive_text.specs.Entries.{Entry}
use Rattle.archive_sorting.specs.Spans.{blocks_of, entries_at}
use Rattle.archive_sorting.specs.declared.sorted.SortedArchive.{SortedArchive}
use Rattle.archive_sorting.specs.declared.unsorted.UnsortedRecords.{UnsortedRecords}

-- the entries of records, in no order and each once or more
abbrev pub entries_kept : UnsortedRecords → List Entry
entries_kept s = entries_at (blocks_of s.arena) s.spans.items

-- the entries of an archive, in order
abbrev pub entries_in : SortedArchive → List Entry
entries_in s = entries_at (blocks_of s.arena) s.spans.items
