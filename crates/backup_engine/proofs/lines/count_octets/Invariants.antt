use Rattle.std.proofs.Common.{◌≡◌, take}
use Rattle.backup_engine.specs.Lines.{octets_of}
use Rattle.backup_engine.proofs.lines.count_octets.Given as goal

abbrev pub invariant-files : goal.invariant-files
invariant-files l = l.octets ≡ octets_of (take l.file-index l.copied)
