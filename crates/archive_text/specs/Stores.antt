-- What is added to a set of entries.
use Rattle.std.specs.Prelude.{◌≡◌, ℤ, List, ◌∷◌, ◌++◌}
use Rattle.syslog_value.specs.Parts.{Parts}
use Rattle.archive_text.specs.Entries.{Entry, Has, IsEntryOf}
use Rattle.archive_text.specs.declared.store.Added.{Added}
use Rattle.archive_text.specs.declared.store.Added.TheVariants.{New, Held}

-- the entry stands between the old ones
abbrev pub IsInserted : Entry → List Entry → List Entry → Type 0
IsInserted e old new =
    (a : List Entry) × (b : List Entry) × (old ≡ a ++ b) × (new ≡ a ++ e ∷ b)

-- the entry was not there and is inserted; or it was there, and nothing changes
abbrev pub AddsEntry : Entry → List Entry → List Entry → Added → Type 0
AddsEntry e old new New = ¬ (Has old e) × IsInserted e old new
AddsEntry e old new Held = Has old e × (new ≡ old)

-- the entry of a record is added
abbrev pub AddsRecord : Parts ℤ → List Entry → List Entry → Added → Type 0
AddsRecord r old new added = (e : Entry) × IsEntryOf r e × AddsEntry e old new added
