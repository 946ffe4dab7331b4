use Rattle.std.proofs.Common.{take}
use Rattle.octet_language.specs.Language.{Each}
use Rattle.syslog_fields.proofs.Appends.{puts_failed}
use Rattle.archive_counts.specs.Json.{RowJson}
use Rattle.archive_counts.proofs.Texts.{adds_more}
use Rattle.archive_counts.proofs.json_lines.put_objects.Goals as goal

pub rows-preserved : goal.rows-preserved
rows-preserved c =
    adds_more (RowJson c.args.keys.now) c.args.rows.now c.rows.row-index c.row-item.result c.args.out.now.items
    c.rows.out.items c.put_row.new.out.items c.rows-test.true c.row-item.is c.rows.invariant c.in_ok-put_row.ensures

pub returns-in_err-put_row : goal.returns-in_err-put_row
returns-in_err-put_row c =
    puts_failed (Each (RowJson c.args.keys.now) (take c.rows.row-index c.args.rows.now))
    (Each (RowJson c.args.keys.now) c.args.rows.now) c.args.out.now.items c.rows.out.items c.put_row.new.out.items
    c.from_residual.result c.from_residual.ensures.0 c.rows.invariant c.in_err-put_row.ensures
