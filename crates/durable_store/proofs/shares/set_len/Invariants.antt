use Rattle.std.proofs.Common.{◌≡◌, ◌++◌, List, length}
use Rattle.archive_pages.specs.Paged.{at_most_all, entries_from, entries_in}
use Rattle.archive_text.specs.Entries.{Entry}
use Rattle.archive_text.specs.Text.{text_of}
use Rattle.durable_store.proofs.shares.set_len.Given as goal

abbrev pub invariant-entries : goal.invariant-entries
invariant-entries l = record {
  done : List Entry;
  parts : entries_in l.set ≡ done ++ entries_from l.set l.place;
  len_is : l.len ≡ at_most_all (length (text_of done));
}

abbrev pub decreases-entries : goal.decreases-entries
decreases-entries l = length (entries_from l.set l.place)
