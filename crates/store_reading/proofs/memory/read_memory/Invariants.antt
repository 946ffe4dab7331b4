use Rattle.std.proofs.Common.{◌≡◌}
use Rattle.store_reading.proofs.memory.read_memory.Given as goal

abbrev pub invariant-listings : goal.invariant-listings
invariant-listings g l = record {
  told : g.F.Folder.tells l.folder → g.F.Folder.tells l.fn.folder;
  same : g.F.Folder.tells l.folder → g.F.Folder.files l.folder ≡ g.F.Folder.files l.fn.folder;
}
