use Rattle.std.proofs.Common.{◌≡◌, List, ℕ, take}
use Rattle.std.specs.Prelude.{Contains, IsTrue}
use Rattle.store_backup.specs.Backups.{BacksUp, IsDone, IsOfKind}
use Rattle.store_backup.specs.Copies.{IsBacking}
use Rattle.store_backup.proofs.files.copy_each.Given as goal

abbrev pub invariant-names : goal.invariant-names
invariant-names g l = record {
  told_source : g.F.Folder.tells l.folder → g.F.Folder.tells l.fn.folder;
  same : g.F.Folder.tells l.folder → g.F.Folder.files l.folder ≡ g.F.Folder.files l.fn.folder;
  told : g.D.Disk.tells l.target → g.D.Disk.tells l.fn.target;
  backs : g.F.Folder.tells l.folder → g.D.Disk.tells l.target
      → IsBacking (g.F.Folder.files l.fn.folder) (g.D.Disk.state l.fn.target) l.draft
      → BacksUp (g.F.Folder.files l.fn.folder) (g.D.Disk.state l.fn.target) (g.D.Disk.state l.target) l.draft l.fn.backup
      l.backup;
  done : g.F.Folder.tells l.folder → g.D.Disk.tells l.target
      → IsBacking (g.F.Folder.files l.fn.folder) (g.D.Disk.state l.fn.target) l.draft → IsTrue l.all
      → (name : List ℕ) → Contains (take l.name-index l.names) name → IsOfKind l.kind name
      → IsDone (g.D.Disk.state l.target) l.backup.damaged.items name;
}
