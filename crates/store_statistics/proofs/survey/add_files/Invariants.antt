use Rattle.std.proofs.Common.{◌≡◌, ◌++◌, drop, take}
use Rattle.std.specs.Prelude.{Contains}
use Rattle.std.specs.Cmp.Lexicographic.{slice_cmp}
use Rattle.std.specs.List.Sorted.{IsStrictlySortedBy}
use Rattle.std.specs.Ordering.{nat_cmp}
use Rattle.store_statistics.specs.Statistics.{AreToldOf, IsEmpty, IsRight, file_names}
use Rattle.store_statistics.proofs.survey.add_files.Given as goal

abbrev pub invariant-names : goal.invariant-names
invariant-names g l = record {
  told : g.F.Folder.tells l.folder → g.F.Folder.tells l.fn.folder;
  same : g.F.Folder.tells l.folder → g.F.Folder.files l.folder ≡ g.F.Folder.files l.fn.folder;
  order : IsEmpty l.fn.survey → IsStrictlySortedBy (slice_cmp nat_cmp) l.names
      → IsStrictlySortedBy (slice_cmp nat_cmp) (file_names l.survey.files.items ++ drop l.name-index l.names);
  right : IsEmpty l.fn.survey → g.F.Folder.tells l.folder → IsRight (g.F.Folder.files l.fn.folder) l.survey;
  listed : g.F.Folder.tells l.folder → AreToldOf (g.F.Folder.files l.fn.folder) (Contains (take l.name-index l.names))
      l.survey.files.items l.survey.damaged.items;
}
