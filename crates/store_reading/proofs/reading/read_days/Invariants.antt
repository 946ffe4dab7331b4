use Rattle.std.proofs.Common.{◌≡◌}
use Rattle.store_reading.specs.Folders.{AreNamesOf}
use Rattle.store_reading.specs.Journals.{IsOfMemory}
use Rattle.store_reading.specs.Whole.{EarlierAreWhole}
use Rattle.store_reading.proofs.DaysRead.{AreRead}
use Rattle.store_reading.proofs.reading.read_days.Given as goal

abbrev pub invariant-days : goal.invariant-days
invariant-days g l = record {
  told : g.F.Folder.tells l.folder → g.F.Folder.tells l.fn.folder;
  same : g.F.Folder.tells l.folder → g.F.Folder.files l.folder ≡ g.F.Folder.files l.fn.folder;
  names : g.F.Folder.tells l.folder → AreNamesOf (g.F.Folder.files l.fn.folder) l.fn.names
      → AreNamesOf (g.F.Folder.files l.fn.folder) l.names;
  read : g.F.Folder.tells l.folder → AreNamesOf (g.F.Folder.files l.fn.folder) l.fn.names
      → IsOfMemory (g.F.Folder.files l.fn.folder) l.kept.range l.text
      → AreRead (g.F.Folder.files l.fn.folder) l.kept.range l.last l.rest
      (g.W.Output.state l.fn.writer).taken (g.W.Output.state l.writer).taken;
  writer : (g.W.Output.state l.writer).failures ≡ (g.W.Output.state l.fn.writer).failures;
  whole : g.F.Folder.tells l.folder → AreNamesOf (g.F.Folder.files l.fn.folder) l.fn.names
      → EarlierAreWhole (g.F.Folder.files l.fn.folder) l.kept.range l.last;
}
