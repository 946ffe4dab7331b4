use Rattle.std.proofs.Common.{◌≡◌}
use Rattle.store_backup.specs.Backups.{Lists, ShowsNothing}
use Rattle.store_backup.specs.Copies.{IsBacking}
use Rattle.store_backup.proofs.copying.copy_all.Given as goal

abbrev pub invariant-rounds : goal.invariant-rounds
invariant-rounds g l = record {
  told_source : g.F.Folder.tells l.folder → g.F.Folder.tells l.fn.folder;
  same : g.F.Folder.tells l.folder → g.F.Folder.files l.folder ≡ g.F.Folder.files l.fn.folder;
  told : g.D.Disk.tells l.target → g.D.Disk.tells l.fn.target;
  backing : g.F.Folder.tells l.folder → g.D.Disk.tells l.target
      → IsBacking (g.F.Folder.files l.fn.folder) (g.D.Disk.state l.fn.target) l.draft
      → IsBacking (g.F.Folder.files l.fn.folder) (g.D.Disk.state l.target) l.draft;
  lists : g.F.Folder.tells l.folder → g.D.Disk.tells l.target
      → IsBacking (g.F.Folder.files l.fn.folder) (g.D.Disk.state l.fn.target) l.draft
      → ShowsNothing (g.D.Disk.state l.fn.target)
      → Lists (g.D.Disk.state l.target) l.draft l.backup.copied.items;
}
