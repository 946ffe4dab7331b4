use Rattle.std.proofs.Common.{◌≡◌, take}
use Rattle.store_reading.specs.Journals.{Adds, NamedMemoryHas}
use Rattle.store_reading.specs.Sources.{set_entries}
use Rattle.store_reading.specs.Whole.{NamedMemoryIsWhole}
use Rattle.store_reading.proofs.memory.add_files.Given as goal

abbrev pub invariant-names : goal.invariant-names
invariant-names g l = record {
  told : g.F.Folder.tells l.folder → g.F.Folder.tells l.fn.folder;
  same : g.F.Folder.tells l.folder → g.F.Folder.files l.folder ≡ g.F.Folder.files l.fn.folder;
  adds : g.F.Folder.tells l.folder → Adds (set_entries l.fn.set) (set_entries l.set)
      (NamedMemoryHas (g.F.Folder.files l.fn.folder) l.range (take l.name-index l.names));
  whole : g.F.Folder.tells l.folder
      → NamedMemoryIsWhole (g.F.Folder.files l.fn.folder) (take l.name-index l.names);
}
