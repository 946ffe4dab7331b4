use Rattle.std.proofs.Common.{◌≡◌, map, take}
use Rattle.store_reading.specs.Segments.{AreSegmentsOf}
use Rattle.store_reading.specs.Sources.{source_state}
use Rattle.store_reading.specs.Whole.{NamedSegmentsAreWhole}
use Rattle.store_reading.proofs.opening.open_segments.Given as goal

abbrev pub invariant-names : goal.invariant-names
invariant-names g l = record {
  told : g.F.Folder.tells l.folder → g.F.Folder.tells l.fn.folder;
  same : g.F.Folder.tells l.folder → g.F.Folder.files l.folder ≡ g.F.Folder.files l.fn.folder;
  opened : g.F.Folder.tells l.folder → AreSegmentsOf (g.F.Folder.files l.fn.folder) (take l.name-index l.names) l.period
      (map (source_state g.F.File.Input.state) l.inputs.items);
  whole : g.F.Folder.tells l.folder
      → NamedSegmentsAreWhole (g.F.Folder.files l.fn.folder) (take l.name-index l.names) l.period;
}
