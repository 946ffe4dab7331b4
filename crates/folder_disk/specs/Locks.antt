-- The names of the files that are locked.
use Rattle.std.specs.Prelude.{ℕ, List, codes}
use Rattle.folder_disk.specs.declared.lock.LockFile.{LockFile}
use Rattle.folder_disk.specs.declared.lock.LockFile.TheVariants.{Writing, Compaction, Addition, Ledger}

abbrev pub lock_name : LockFile → List ℕ
lock_name Writing = codes "lock"
lock_name Compaction = codes "lock.compact"
lock_name Addition = codes "lock.add"
lock_name Ledger = codes "lock.ledger"
