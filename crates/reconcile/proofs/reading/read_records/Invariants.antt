use Rattle.std.proofs.Common.{◌≡◌, ◌++◌, length}
use Rattle.archive_text.specs.Text.{IsArchive, text_of}
use Rattle.archive_text.specs.declared.limits.TheConstants.{ENTRY_MAX}
use Rattle.reconcile.proofs.reading.read_records.Given as goal

abbrev pub invariant-reading : goal.invariant-reading
invariant-reading l = record {
  archive : IsArchive ENTRY_MAX l.places.items;
  text : text_of l.places.items ++ l.rest ≡ l.text;
}

abbrev pub decreases-reading : goal.decreases-reading
decreases-reading l = length l.rest
