use Rattle.std.proofs.Common.{◌≡◌}
use Rattle.store_statistics.specs.Statistics.{IsEmpty}
use Rattle.store_statistics.proofs.survey.survey_files.Given as goal

abbrev pub invariant-surveys : goal.invariant-surveys
invariant-surveys g l = record {
  told : g.F.Folder.tells l.folder → g.F.Folder.tells l.fn.folder;
  same : g.F.Folder.tells l.folder → g.F.Folder.files l.folder ≡ g.F.Folder.files l.fn.folder;
  empty : IsEmpty l.fn.survey → IsEmpty l.survey;
}
