use Rattle.std.proofs.Common.{List, ℕ, ◌≡◌, refl, rules, subst}
use Rattle.record_store.specs.Holdings.{IsWholeJournal, JournalHas}
use Rattle.record_store.specs.Names.{IsJournal}
use Rattle.store_reading.specs.Damages.{IsDamagedJournal, Tells}
use Rattle.store_reading.specs.Journals.{Adds, IsJournalFile}
use Rattle.store_reading.specs.Sources.{set_entries}
use Rattle.store_reading.proofs.Batched.{named_added}
use Rattle.store_reading.proofs.Causing.{found_cause}
use Rattle.store_reading.proofs.Whole.{if_read, of_read}
use Rattle.store_reading.proofs.journals.add_journal.Goals as goal

pub returns-in-Ok-clause-adds : goal.returns-in-Ok-clause-adds
returns-in-Ok-clause-adds g c t =
    let files = g.F.Folder.files c.args.folder.now in
    let name = c.args.name.now in
    let old = set_entries c.args.set.now in
    let new = set_entries c.add_read.new.set in
    let journal : IsJournal name = subst IsJournal c.as_octets.ensures.value (c.is_journal.ensures.0 (search rules)) in
    named_added files name old new journal
    (of_read (files name) (IsJournalFile c.in_ok-journal.journal) (λ file. Adds old new (JournalHas file))
    (c.in_ok-journal.ensures.read t) c.in-Ok.ensures.adds)

pub returns-in-Ok-clause-whole : goal.returns-in-Ok-clause-whole
returns-in-Ok-clause-whole g c t journal =
    if_read (g.F.Folder.files c.args.folder.now c.args.name.now) (IsJournalFile c.in_ok-journal.journal) IsWholeJournal
    (c.in_ok-journal.ensures.read t) c.in-Ok.ensures.whole

pub returns-clause-cause : goal.returns-clause-cause
returns-clause-cause g c =
    let files = g.F.Folder.files c.args.folder.now in
    let name = c.args.name.now in
    let journal : IsJournal name = subst IsJournal c.as_octets.ensures.value (c.is_journal.ensures.0 (search rules)) in
    found_cause (g.F.Folder.tells c.read_journal.new.folder) (g.F.Folder.has_failed c.read_journal.new.folder) files
    (λ (n : List ℕ). (n ≡ name) × IsJournal n) (λ n. IsDamagedJournal) name c.in_ok-copy-in-Err.field-0 c.in-Err.fault
    c.of.result (refl, journal)
    (λ t. of_read (files name) (IsJournalFile c.in_ok-journal.journal) (λ file. Tells c.in-Err.fault (IsDamagedJournal file))
    (c.in_ok-journal.ensures.read t) c.in-Err.ensures.damaged) c.in_ok-copy-in-Err.ensures c.of.ensures
