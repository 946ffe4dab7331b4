use Rattle.std.proofs.Common.{take}
use Rattle.octet_language.specs.Language.{Each}
use Rattle.syslog_fields.specs.Appending.{Adds}
use Rattle.archive_counts.specs.Bars.{BarText, shown_row}
use Rattle.archive_counts.proofs.bars.put_bars.Given as goal

abbrev pub invariant-rows : goal.invariant-rows
invariant-rows l =
    Adds (Each (λ r. BarText l.scale.largest l.scale.room (shown_row r)) (take l.row-index l.rows)) l.fn.out.items
    l.out.items
