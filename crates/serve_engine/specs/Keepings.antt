-- What is kept through crashes.
use Rattle.std.specs.Prelude.{◌≡◌, List, ◌++◌}
use Rattle.archive_text.specs.Entries.{Entry, Has}
use Rattle.syslog_collect.specs.Collectors.{HaveSameEntries}

-- what is held, and what of that every crash leaves
pub record Kept : Type 0 where
  pub held : List Entry
  pub committed : List Entry

-- all that is held is committed
abbrev pub all_committed : Kept → Kept
all_committed k = record { held = k.held; committed = k.held }

-- what is committed is held
abbrev pub IsWithin : Kept → Type 0
IsWithin k = (x : Entry) → Has k.committed x → Has k.held x

-- what was committed still is
abbrev pub StaysCommitted : Kept → Kept → Type 0
StaysCommitted k j = (x : Entry) → Has k.committed x → Has j.committed x

-- of what a set had, each entry is held, or is in the set still; and nothing more is; what was held still is; nothing was
-- committed
pub record HandsOver (k j : Kept) (old new : List Entry) : Type 0 where
  pub same : HaveSameEntries (k.held ++ old) (j.held ++ new)
  pub still : (x : Entry) → Has k.held x → Has j.held x
  pub committed : j.committed ≡ k.committed
