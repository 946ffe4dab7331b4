use Rattle.std.proofs.Common.{◌≡◌}
use Rattle.store_reading.specs.Folders.{AreNamesOf}
use Rattle.store_reading.proofs.opening.open_period.Given as goal

abbrev pub invariant-listings : goal.invariant-listings
invariant-listings g l = record {
  told : g.F.Folder.tells l.folder → g.F.Folder.tells l.fn.folder;
  same : g.F.Folder.tells l.folder → g.F.Folder.files l.folder ≡ g.F.Folder.files l.fn.folder;
  names : g.F.Folder.tells l.folder → AreNamesOf (g.F.Folder.files l.fn.folder) l.fn.names
      → AreNamesOf (g.F.Folder.files l.fn.folder) l.names;
}
