use Rattle.std.proofs.Common.{◌≡◌}
use Rattle.ledger_engine.specs.Findings.{IsFoundOf}
use Rattle.ledger_engine.proofs.verifying.examine.Given as goal

abbrev pub invariant-looks : goal.invariant-looks
invariant-looks g l = record {
  told : g.F.Folder.tells l.folder → g.F.Folder.tells l.initial.folder;
  same : g.F.Folder.tells l.folder → g.F.Folder.files l.folder ≡ g.F.Folder.files l.initial.folder;
  found : g.F.Folder.tells l.folder → IsFoundOf (g.F.Folder.files l.initial.folder) l.against l.found;
}
