-- Entries without where they lie in memory.
use Rattle.archive_text.specs.Entries.{Entry}
use Rattle.archive_text.specs.declared.entry.EntryView.{EntryView}

abbrev pub entry_of : EntryView → Entry
entry_of v = record { instant = v.instant; octets = v.octets.now }
