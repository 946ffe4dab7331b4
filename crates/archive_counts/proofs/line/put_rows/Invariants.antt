use Rattle.std.proofs.Common.{take}
use Rattle.octet_language.specs.Language.{Each}
use Rattle.syslog_fields.specs.Appending.{Adds}
use Rattle.archive_counts.specs.Texts.{RowText}
use Rattle.archive_counts.proofs.line.put_rows.Given as goal

abbrev pub invariant-rows : goal.invariant-rows
invariant-rows l = Adds (Each RowText (take l.row-index l.rows)) l.fn.out.items l.out.items
