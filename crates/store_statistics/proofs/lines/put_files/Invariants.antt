use Rattle.std.proofs.Common.{take}
use Rattle.octet_language.specs.Language.{Each}
use Rattle.syslog_fields.specs.Appending.{Adds}
use Rattle.store_statistics.specs.Lines.{FileLine}
use Rattle.store_statistics.proofs.lines.put_files.Given as goal

abbrev pub invariant-files : goal.invariant-files
invariant-files l = Adds (Each FileLine (take l.file-index l.files)) l.fn.out.items l.out.items
