use Rattle.std.proofs.Common.{◌≡◌, take}
use Rattle.store_engine.specs.Lines.{damage_lines}
use Rattle.backup_engine.proofs.lines.damaged_lines.Given as goal

abbrev pub invariant-files : goal.invariant-files
invariant-files l = l.lines.items ≡ damage_lines (take l.file-index l.damaged)
