use Rattle.std.proofs.Common.{List, ℕ, subst, sym}
use Rattle.record_store.specs.Holdings.{JournalHas}
use Rattle.store_reading.specs.Damages.{AreReadable, IsDamagedJournal, Tells}
use Rattle.store_reading.specs.Journals.{Adds}
use Rattle.store_reading.specs.Sources.{set_entries}
use Rattle.store_reading.specs.declared.fault.CheckFault.{CheckFault}
use Rattle.store_reading.proofs.Causing.{if_err_more}
use Rattle.store_reading.proofs.Damaged.{hidden_damaged}
use Rattle.store_reading.proofs.Tails.{file_is, hidden_file, nothing_hidden, whole_of}
use Rattle.store_reading.proofs.Whole.{on_ok_more}
use Rattle.store_reading.proofs.journals.add_read.Goals as goal

pub returns-in-Octets-clause-adds : goal.returns-in-Octets-clause-adds
returns-in-Octets-clause-adds c =
    let old = set_entries c.args.set.now in
    let new = set_entries c.add_batches.new.set in
    on_ok_more c.add_batches.result
    (λ adds file is. subst (λ (t : List ℕ). Adds old new (JournalHas t))
    (file_is c.args.journal.now c.in-Octets.octets c.in-Octets.is c.deref.result.now c.deref.ensures.value file is) adds)
    c.add_batches.ensures.adds

pub returns-in-Octets-clause-whole : goal.returns-in-Octets-clause-whole
returns-in-Octets-clause-whole c =
    on_ok_more c.add_batches.result
    (λ readable file is. whole_of file (subst AreReadable
    (file_is c.args.journal.now c.in-Octets.octets c.in-Octets.is c.deref.result.now c.deref.ensures.value file is)
    readable)
    (nothing_hidden c.args.journal.now c.in-Octets.octets c.in-Octets.is c.deref.result.now c.deref.ensures.value file
    is)) c.add_batches.ensures.readable

pub returns-in-Octets-clause-damaged : goal.returns-in-Octets-clause-damaged
returns-in-Octets-clause-damaged c =
    if_err_more c.add_batches.result (λ (f : CheckFault). Tells f (IsDamagedJournal c.deref.result.now)) _
    (λ fault told file is. subst (λ (t : List ℕ). Tells fault (IsDamagedJournal t))
    (file_is c.args.journal.now c.in-Octets.octets c.in-Octets.is c.deref.result.now c.deref.ensures.value file is)
    told) c.add_batches.ensures.damaged

pub returns-in-Hidden-clause-damaged : goal.returns-in-Hidden-clause-damaged
returns-in-Hidden-clause-damaged c file is =
    hidden_damaged file _ (hidden_file c.args.journal.now _ c.in-Hidden.is file is)
