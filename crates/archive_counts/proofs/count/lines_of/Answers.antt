use Rattle.std.proofs.Common.{◌≡◌, List, ap, subst, ◌∙◌}
use Rattle.syslog_fields.specs.Appending.{Adds}
use Rattle.archive_counts.specs.Counted.{RowsText}
use Rattle.archive_counts.specs.Lines.{first_of}
use Rattle.archive_counts.specs.Rows.{AreRanked}
use Rattle.archive_counts.specs.declared.order.LineOrder.{LineOrder}
use Rattle.archive_counts.specs.declared.rows.Row.{Row}
use Rattle.archive_counts.proofs.Forms.{has_lines}
use Rattle.archive_counts.proofs.count.lines_of.Goals as goal

pub returns : goal.returns
returns c = λ xs h.
    let options = c.args.options.now in
    let rows : List Row = c.rank.new.rows.items in
    let shown : c.first_rows.result.now ≡ first_of options.top rows =
    c.first_rows.ensures ∙ ap (first_of options.top) c.deref.ensures.value in
    has_lines options c.args.table xs rows c.new-text.result.items c.put_form.new.out.items h
    (c.rank.ensures.rows c.args.table c.in_ok-rows.ensures)
    (subst (λ (o : LineOrder). AreRanked o rows) c.order_of.ensures
    (c.rank.ensures.ranked c.args.table c.in_ok-rows.ensures)) c.new-text.ensures.items
    (subst (λ (l : List Row). Adds (RowsText options l) c.new-text.result.items c.put_form.new.out.items) shown
    c.in_ok-put_form.ensures)
