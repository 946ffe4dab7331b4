use Rattle.std.proofs.Common.{◌≡◌, List, ℕ, take}
use Rattle.std.specs.Prelude.{Contains}
use Rattle.store_upkeep.specs.Damages.{AddsTo, AreAsTold, AreDamaged, IsWholeOrListed}
use Rattle.store_upkeep.proofs.verification.verify_files.Given as goal

abbrev pub invariant-names : goal.invariant-names
invariant-names g l = record {
  told : g.F.Folder.tells l.folder → g.F.Folder.tells l.fn.folder;
  same : g.F.Folder.tells l.folder → g.F.Folder.files l.folder ≡ g.F.Folder.files l.fn.folder;
  damaged : g.F.Folder.tells l.folder → AreDamaged (g.F.Folder.files l.fn.folder) l.fn.damaged.items
      → AreDamaged (g.F.Folder.files l.fn.folder) l.damaged.items;
  as_told : g.F.Folder.tells l.folder → AreAsTold (g.F.Folder.files l.fn.folder) l.fn.damaged.items
      → AreAsTold (g.F.Folder.files l.fn.folder) l.damaged.items;
  added : AddsTo l.fn.damaged.items l.damaged.items;
  listed : g.F.Folder.tells l.folder → (name : List ℕ) → Contains (take l.name-index l.names) name
      → IsWholeOrListed (g.F.Folder.files l.fn.folder) l.damaged.items name;
}
