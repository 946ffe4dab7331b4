use Rattle.std.proofs.Common.{◌≡◌, take}
use Rattle.std.specs.Prelude.{ℤ}
use Rattle.syslog_value.specs.Parts.{Parts}
use Rattle.syslog_fields.specs.Appending.{Adds}
use Rattle.syslog_reading.specs.WellFormed.{WellFormed}
use Rattle.archive_counts.specs.Words.{WordsText}
use Rattle.archive_counts.proofs.words.put_words.Given as goal

abbrev pub invariant-keys : goal.invariant-keys
invariant-keys l = (r : Parts ℤ) → WellFormed r l.entry.octets.now → r.time ≡ l.entry.instant
    → Adds (WordsText (take l.key-index l.keys) r) l.fn.out.items l.out.items
