use Rattle.std.proofs.Common.{◌≡◌, ◌++◌, ◌∷◌, List, length}
use Rattle.std.specs.List.{AllByRecursion}
use Rattle.archive_text.specs.Periods.{IsIn}
use Rattle.archive_text.specs.declared.period.Period.TheVariants.{Day}
use Rattle.archive_pages.specs.Paged.{at_most_all, entries_from}
use Rattle.archive_text.specs.EntryViews.{entry_of}
use Rattle.archive_text.specs.Entries.{Entry}
use Rattle.archive_text.specs.Text.{text_of}
use Rattle.durable_store.proofs.shares.day_len.Given as goal

abbrev pub invariant-entries : goal.invariant-entries
invariant-entries l = record {
  front : List Entry;
  parts : entries_from l.set l.fn.behind ≡ front ++ entries_from l.set l.place;
  days : AllByRecursion (IsIn Day l.fn.day) front;
  len_is : l.len ≡ at_most_all (length (text_of (entry_of l.first ∷ front)));
}

abbrev pub decreases-entries : goal.decreases-entries
decreases-entries l = length (entries_from l.set l.place)
