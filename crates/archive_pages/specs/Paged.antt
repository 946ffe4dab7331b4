-- What a set of pages holds, and how much memory it takes. Numbers stay at the largest of 64 bits.
use Rattle.std.specs.Prelude.{ℕ, ◌+◌, ◌-◌, ◌*◌, ◌^◌, List, length, min, vec_len}
use Rattle.archive_text.specs.Entries.{Entry}
use Rattle.archive_pages.specs.Pages.{after, entries_of}
use Rattle.archive_pages.specs.Spans.{block_at, blocks_of, entries_at, lists_of}
use Rattle.archive_pages.specs.declared.arena.TheConstants.{BLOCK}
use Rattle.archive_pages.specs.declared.paged.PagedArchive.{PagedArchive}
use Rattle.archive_pages.specs.declared.paged.TheConstants.{PAGE_ROOM}
use Rattle.archive_pages.specs.declared.reading.Place.{Place}

-- its entries, in order
abbrev pub entries_in : PagedArchive → List Entry
entries_in s = entries_of (blocks_of s.arena) (lists_of s.pages.items)

-- those behind a place
abbrev pub entries_from : PagedArchive → Place → List Entry
entries_from s place = entries_at (blocks_of s.arena) (after (lists_of s.pages.items) place.page place.index)

-- a number, or the largest of 64 bits
abbrev pub at_most_all : ℕ → ℕ
at_most_all n = min n (2 ^ 64 - 1)

-- each block but the last counts whole
abbrev pub blocks_room : List (List ℕ) → ℕ
blocks_room blocks =
    at_most_all (at_most_all ((length blocks - 1) * BLOCK) + length (block_at blocks (length blocks - 1)))

-- the blocks, and so much for each page
abbrev pub room_of : PagedArchive → ℕ
room_of s = at_most_all (blocks_room (blocks_of s.arena) + at_most_all (vec_len s.pages * PAGE_ROOM))
