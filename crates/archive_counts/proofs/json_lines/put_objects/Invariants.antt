use Rattle.std.proofs.Common.{take}
use Rattle.octet_language.specs.Language.{Each}
use Rattle.syslog_fields.specs.Appending.{Adds}
use Rattle.archive_counts.specs.Json.{RowJson}
use Rattle.archive_counts.proofs.json_lines.put_objects.Given as goal

abbrev pub invariant-rows : goal.invariant-rows
invariant-rows l = Adds (Each (RowJson l.keys) (take l.row-index l.rows)) l.fn.out.items l.out.items
