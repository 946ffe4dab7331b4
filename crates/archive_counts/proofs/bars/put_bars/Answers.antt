use Rattle.std.proofs.Common.{◌≤◌, ℕ, map, subst, sym, take}
use Rattle.octet_language.specs.Language.{Each}
use Rattle.syslog_fields.proofs.Appends.{puts_failed}
use Rattle.archive_counts.specs.Bars.{BarText, BarsText, largest, shown_row}
use Rattle.archive_counts.specs.declared.rows.Row.{Row}
use Rattle.archive_counts.proofs.Scales.{all_bars, not_above}
use Rattle.archive_counts.proofs.Texts.{adds_more}
use Rattle.archive_counts.proofs.bars.put_bars.Goals as goal

pub put_bar-requires : goal.put_bar-requires
put_bar-requires c =
    subst (λ (most : ℕ). c.row-item.result.tally.records ≤ most) (sym c.scale_of-scale.ensures.largest)
    (subst (λ (r : Row). r.tally.records ≤ largest (map shown_row c.args.rows.now)) (sym c.row-item.is)
    (not_above c.args.rows.now c.rows.row-index c.row-item.result c.rows-test.true))

pub rows-preserved : goal.rows-preserved
rows-preserved c =
    adds_more (λ r. BarText c.scale_of-scale.result.largest c.scale_of-scale.result.room (shown_row r)) c.args.rows.now
    c.rows.row-index c.row-item.result c.args.out.now.items c.rows.out.items c.put_bar.new.out.items c.rows-test.true
    c.row-item.is c.rows.invariant c.in_ok-put_bar.ensures

pub returns-in_err-put_bar : goal.returns-in_err-put_bar
returns-in_err-put_bar c =
    puts_failed (Each (λ r. BarText c.scale_of-scale.result.largest c.scale_of-scale.result.room (shown_row r))
    (take c.rows.row-index c.args.rows.now)) (BarsText c.args.columns (map shown_row c.args.rows.now))
    c.args.out.now.items c.rows.out.items c.put_bar.new.out.items c.from_residual.result c.from_residual.ensures.0
    c.rows.invariant c.in_err-put_bar.ensures

pub returns : goal.returns
returns c =
    all_bars c.args.columns c.scale_of-scale.result.largest c.scale_of-scale.result.room c.args.rows.now
    c.rows.row-index c.args.out.now.items c.rows.out.items c.rows-test.false c.scale_of-scale.ensures.largest
    c.scale_of-scale.ensures.room c.rows.invariant
