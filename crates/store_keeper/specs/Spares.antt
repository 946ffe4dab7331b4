-- A set with memory that is held back for it.
use Rattle.std.specs.Prelude.{Bool, List}
use Rattle.archive_pages.specs.Paged.{entries_in}
use Rattle.archive_pages.specs.declared.paged.PagedArchive.{PagedArchive}
use Rattle.archive_text.specs.Entries.{Entry}
use Rattle.store_keeper.specs.declared.spared.SparedSet.{SparedSet}

-- its pages
abbrev pub pages_of : SparedSet → PagedArchive
pages_of s = s.pages

-- its entries, in order
abbrev pub spared_entries : SparedSet → List Entry
spared_entries s = entries_in s.pages

-- memory is short for it
abbrev pub is_short : SparedSet → Bool
is_short s = s.short
