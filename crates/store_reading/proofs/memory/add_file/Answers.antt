use Rattle.std.proofs.Common.{List, ℕ, ◌≡◌, inl, inr, refl, subst}
use Rattle.std.specs.Prelude.{codes}
use Rattle.disk.specs.States.{Files}
use Rattle.record_store.specs.Names.{IsJournal, IsSegment}
use Rattle.store_reading.specs.Causes.{IsCause, IsDamagedInMemory, IsOfMemoryName, file_causes}
use Rattle.store_reading.specs.Damages.{IsDamagedJournal, IsDamagedSegment}
use Rattle.store_reading.specs.Journals.{Adds, HasAsJournal, HasAsMixed, HasInMemory}
use Rattle.store_reading.specs.Sources.{set_entries}
use Rattle.store_reading.specs.Whole.{IsWholeSegmentAt}
use Rattle.store_reading.proofs.Batched.{adds_then}
use Rattle.store_reading.proofs.Causing.{at_err, wider_cause, wider_result}
use Rattle.store_reading.proofs.Whole.{on_ok_more}
use Rattle.store_reading.proofs.memory.add_file.Goals as goal

pub returns-clause-adds : goal.returns-clause-adds
returns-clause-adds g c =
    let files = g.F.Folder.files c.args.folder.now in
    let name = c.args.name.now in
    let range = c.args.range.now in
    let old = set_entries c.args.set.now in
    let mid = set_entries c.add_journal.new.set in
    let new = set_entries c.add_mixed.new.set in
    on_ok_more c.add_mixed.result (λ adds t.
    let before = c.add_mixed.ensures.told t in
    adds_then old mid new (HasAsJournal files name) (HasAsMixed files range name) (HasInMemory files range name)
    (c.in_ok-add_journal.ensures.adds before)
    (subst (λ (f : Files). Adds mid new (HasAsMixed f range name)) (c.add_journal.ensures.same before) (adds t))
    (λ e. (λ h. h, λ h. h))) c.add_mixed.ensures.adds

pub returns-clause-whole : goal.returns-clause-whole
returns-clause-whole g c =
    let name = c.args.name.now in
    on_ok_more c.add_mixed.result (λ whole t.
    let before = c.add_mixed.ensures.told t in
    record {
      journal = c.in_ok-add_journal.ensures.whole before;
      mixed = subst (λ (f : Files). IsWholeSegmentAt f (codes "mixed") name) (c.add_journal.ensures.same before) (whole t);
    }) c.add_mixed.ensures.whole

pub returns-in_err-add_journal-clause-cause : goal.returns-in_err-add_journal-clause-cause
returns-in_err-add_journal-clause-cause g c =
    let files = g.F.Folder.files c.args.folder.now in
    let told = g.F.Folder.tells c.add_journal.new.folder in
    let failed = g.F.Folder.has_failed c.add_journal.new.folder in
    let name = c.args.name.now in
    at_err c.from_residual.result c.in_err-add_journal.field-0.0
    (IsCause (file_causes told failed files (λ (n : List ℕ). (n ≡ name) × IsOfMemoryName n) IsDamagedInMemory))
    c.from_residual.ensures.1
    (wider_cause told failed failed files files (λ (n : List ℕ). (n ≡ name) × IsJournal n)
    (λ (n : List ℕ). (n ≡ name) × IsOfMemoryName n) (λ n. IsDamagedJournal) IsDamagedInMemory (λ same. same)
    (λ t. refl) (λ n is. (is.0, inl is.1)) (λ n file fault is so. inl (is.1, so)) c.in_err-add_journal.field-0.0
    c.in_err-add_journal.ensures.cause)

pub returns-clause-cause : goal.returns-clause-cause
returns-clause-cause g c =
    let told = g.F.Folder.tells c.add_mixed.new.folder in
    let failed = g.F.Folder.has_failed c.add_mixed.new.folder in
    let name = c.args.name.now in
    wider_result told failed failed (g.F.Folder.files c.add_journal.new.folder) (g.F.Folder.files c.args.folder.now)
    (λ (n : List ℕ). (n ≡ name) × IsSegment (codes "mixed") n) (λ (n : List ℕ). (n ≡ name) × IsOfMemoryName n)
    (IsDamagedSegment (codes "mixed")) IsDamagedInMemory (λ same. same)
    (λ t. c.add_journal.ensures.same (c.add_mixed.ensures.told t))
    (λ n is. (is.0, inr is.1)) (λ n file fault is so. inr (is.1, so)) c.add_mixed.result c.add_mixed.ensures.cause
