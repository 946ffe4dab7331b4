use Rattle.std.proofs.Common.{◌≡◌, take}
use Rattle.store_engine.specs.Lines.{damage_lines}
use Rattle.read_engine.proofs.damaged.lines_on.Given as goal

abbrev pub invariant-files : goal.invariant-files
invariant-files l = l.lines.writer.items ≡ damage_lines (take l.file-index l.damaged)
