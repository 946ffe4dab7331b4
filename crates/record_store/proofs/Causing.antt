-- Causes of faults.
use Rattle.std.proofs.Common.{◌≡◌, refl}
use Rattle.std.specs.Prelude.{IfErr, Result, Ok, Err}
use Rattle.disk.specs.declared.fault.DiskFault.{DiskFault}
use Rattle.disk.specs.declared.fault.DiskFault.TheVariants.{Missing, Exists, Full, Failed, Memory}
use Rattle.journal.specs.declared.fault.JournalFault.{JournalFault}
use Rattle.journal.specs.declared.fault.JournalFault.TheVariants.{Disk, TooLong}
use Rattle.record_store.specs.Causes.{Causes, IsCause, IsDiskCause, IsJournalCause}
use Rattle.record_store.specs.declared.fault.StoreFault.{StoreFault}
use Rattle.record_store.specs.declared.fault.StoreFault.TheVariants.{Broken, Journal, Folder, LastNumber}
use Rattle.record_store.specs.declared.fault.StoreFault.TheVariants.{Memory as No_memory}

pub disk_cause : {T : Type 0} (r : Result T DiskFault) (fault : DiskFault) (causes : Causes) → r ≡ Err fault
    → (r ≡ Err Failed → causes.failed) → (r ≡ Err Full → causes.full) → (r ≡ Err Missing → causes.other)
    → (r ≡ Err Exists → causes.other) → IsDiskCause causes fault
disk_cause r Missing causes is failed full missing exists = missing is
disk_cause r Exists causes is failed full missing exists = exists is
disk_cause r Full causes is failed full missing exists = full is
disk_cause r Failed causes is failed full missing exists = failed is
disk_cause r Memory causes is failed full missing exists = tt

pub journal_cause : {T : Type 0} (r : Result T JournalFault) (causes : Causes)
    → (r ≡ Err (Disk Failed) → causes.failed) → (r ≡ Err (Disk Full) → causes.full)
    → (r ≡ Err (Disk Missing) → causes.other) → (r ≡ Err (Disk Exists) → causes.other)
    → (r ≡ Err TooLong → causes.long) → IfErr r (IsJournalCause causes)
journal_cause (Ok x) causes failed full missing exists long = tt
journal_cause (Err (Disk Missing)) causes failed full missing exists long = missing refl
journal_cause (Err (Disk Exists)) causes failed full missing exists long = exists refl
journal_cause (Err (Disk Full)) causes failed full missing exists long = full refl
journal_cause (Err (Disk Failed)) causes failed full missing exists long = failed refl
journal_cause (Err (Disk Memory)) causes failed full missing exists long = tt
journal_cause (Err TooLong) causes failed full missing exists long = long refl

-- where each cause is one of others
module _ (causes others : Causes) (failed : causes.failed → others.failed) (full : causes.full → others.full)
    (other : causes.other → others.other) where
  pub disk_weaker : (fault : DiskFault) → IsDiskCause causes fault → IsDiskCause others fault
  disk_weaker Missing is = other is
  disk_weaker Exists is = other is
  disk_weaker Full is = full is
  disk_weaker Failed is = failed is
  disk_weaker Memory is = tt

  module _ (long : causes.long → others.long) where
    pub journal_weaker : (fault : JournalFault) → IsJournalCause causes fault → IsJournalCause others fault
    journal_weaker (Disk fault) is = disk_weaker fault is
    journal_weaker TooLong is = long is

    module _ (broken : causes.broken → others.broken) where
      pub cause_weaker : (fault : StoreFault) → IsCause causes fault → IsCause others fault
      cause_weaker Broken is = broken is
      cause_weaker (Journal number fault) is = journal_weaker fault is
      cause_weaker (Folder fault) is = disk_weaker fault is
      cause_weaker (LastNumber number) is = absurd is
      cause_weaker No_memory is = tt

      pub result_weaker : {T : Type 0} (r : Result T StoreFault) → IfErr r (IsCause causes) → IfErr r (IsCause others)
      result_weaker (Ok x) is = tt
      result_weaker (Err fault) is = cause_weaker fault is
