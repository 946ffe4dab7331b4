-- Sets that hold the same records.
use Rattle.std.specs.Prelude.{ℤ, ◌↔◌, List}
use Rattle.syslog_value.specs.Parts.{Parts}
use Rattle.archive_text.specs.Entries.{Entry, Has, IsEntryOf}

-- a record is held among the first entries exactly where it is among the others
abbrev pub HoldSame : List Entry → List Entry → Type 0
HoldSame es fs = (r : Parts ℤ) (e : Entry) → IsEntryOf r e → Has es e ↔ Has fs e
